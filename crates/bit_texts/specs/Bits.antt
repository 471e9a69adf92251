-- Lists of bits: those of numbers and of bytes, the most significant first.
use Rattle.std.specs.Prelude.{◌≡◌, ◌≤◌, ℕ, zero, suc, ◌+◌, ◌*◌, ◌/◌, ◌%◌, ◌^◌, ◌==◌, Bool, true, false, List, [], ◌∷◌, ◌++◌, length, take, drop, fold}
use Rattle.std.specs.List.{flat_map, list_any}
use Rattle.std.specs.Int.{from_bool}

-- the number that bits write
unfoldable pub number : List Bool → ℕ
number bits = fold (λ n bit. 2 * n + from_bool bit) 0 bits

-- the bit at a place; place 0 is the lowest
abbrev pub bit : ℕ → ℕ → Bool
bit value place = value / 2 ^ place % 2 == 1

-- the lowest n bits of a value
unfoldable pub binary : ℕ → ℕ → List Bool
binary zero value = []
binary (suc n) value = bit value n ∷ binary n value

-- the bits of bytes
abbrev pub bits_of : List ℕ → List Bool
bits_of bytes = flat_map (binary 8) bytes

-- that many bytes, and the bytes of whole bytes of bits
unfoldable pub bytes_in : ℕ → List Bool → List ℕ
bytes_in zero bits = []
bytes_in (suc n) bits = number (take 8 bits) ∷ bytes_in n (drop 8 bits)

abbrev pub bytes_of : List Bool → List ℕ
bytes_of bits = bytes_in (length bits / 8) bits

-- the first n bits, with zeros past the end
unfoldable pub first : ℕ → List Bool → List Bool
first zero bits = []
first (suc n) [] = false ∷ first n []
first (suc n) (b ∷ bits) = b ∷ first n bits

-- the last bit, false where there is none
abbrev pub last_bit : List Bool → Bool
last_bit bits = fold (λ last bit. bit) false bits

-- the last bit is a 1
abbrev pub EndsInOne : List Bool → Type 0
EndsInOne bits = (front : List Bool) × (bits ≡ front ++ true ∷ [])

-- more_rbsp_data: a 1 bit stands after the first bit
abbrev pub more_data : List Bool → Bool
more_data bits = list_any (λ b. b) (drop 1 bits)

-- the first n of the bits write this number, and the others are left
pub record TakesNumber (n value : ℕ) (bits left : List Bool) : Type 0 where
  pub enough : n ≤ length bits
  pub value_is : number (take n bits) ≡ value
  pub left_is : left ≡ drop n bits
