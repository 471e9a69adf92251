-- Emulation prevention: the bytes of a unit behind its header byte, and the payload in them (7.3.1, 7.4.1).
use Rattle.std.specs.Prelude.{◌≡◌, ℕ, ◌+◌, ◌%◌, ◌==◌, nat_le, nat_lt, Bool, true, false, not, ◌&&◌, ◌||◌, if◌then◌else◌, List, [], ◌∷◌, Option, Some, None, fold}

-- a byte of at most 3, or the end: an emulation_prevention_three_byte stands between two zero bytes and it
abbrev pub is_low_or_end : List ℕ → Bool
is_low_or_end [] = true
is_low_or_end (x ∷ _) = nat_le x 3

-- the payload with a 03 put behind each two zero bytes, counted from the last 03 put in, that such a byte or the end follows
unfoldable pub escaped : List ℕ → List ℕ
escaped [] = []
escaped (a ∷ []) = a ∷ []
escaped (a ∷ b ∷ payload) = a ∷ (if (a == 0) && (b == 0) && is_low_or_end payload then b ∷ 3 ∷ escaped payload else escaped (b ∷ payload))

-- how many zero bytes stand at the end
abbrev pub zeros_at_end : List ℕ → ℕ
zeros_at_end bytes = fold (λ zeros byte. if byte == 0 then zeros + 1 else 0) 0 bytes

-- a unit has no zero byte at its end, so only the zero bytes of whole cabac_zero_words can end a payload (7.4.1)
abbrev pub HasEscape : List ℕ → Type 0
HasEscape payload = zeros_at_end payload % 2 ≡ 0

-- these are the bytes of a unit with this payload
abbrev pub IsEscape : List ℕ → List ℕ → Type 0
IsEscape payload bytes = HasEscape payload × (bytes ≡ escaped payload)

-- ---- the payload as a function of the bytes

-- rbsp_byte and emulation_prevention_three_byte, as 7.3.1 reads them
unfoldable pub unescaped : List ℕ → List ℕ
unescaped [] = []
unescaped (a ∷ []) = a ∷ []
unescaped (a ∷ b ∷ []) = a ∷ b ∷ []
unescaped (a ∷ b ∷ c ∷ bytes) = a ∷ (if (a == 0) && (b == 0) && (c == 3) then b ∷ unescaped bytes else unescaped (b ∷ c ∷ bytes))

-- two zero bytes are followed by a byte above 3, or by 03 that is followed by a byte of at most 3 or the end
abbrev pub may_follow_zeros : List ℕ → Bool
may_follow_zeros [] = false
may_follow_zeros (x ∷ bytes) = nat_lt 3 x || ((x == 3) && is_low_or_end bytes)

abbrev pub starts_escaped : List ℕ → Bool
starts_escaped [] = true
starts_escaped (a ∷ []) = not (a == 0)
starts_escaped (a ∷ b ∷ bytes) = not ((a == 0) && (b == 0)) || may_follow_zeros bytes

-- at each place, and the last byte is not zero
unfoldable pub is_escaped : List ℕ → Bool
is_escaped [] = true
is_escaped (x ∷ bytes) = starts_escaped (x ∷ bytes) && is_escaped bytes

-- the payload of these bytes, if any
abbrev pub payload_of : List ℕ → Option (List ℕ)
payload_of bytes = if is_escaped bytes then Some (unescaped bytes) else None
