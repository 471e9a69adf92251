-- The last of some bits.
use Rattle.std.proofs.Common.{◌≡◌, ℕ, zero, suc, Bool, true, false, List, [], ◌∷◌, ◌++◌, take, drop, ap, ◌∙◌}
use Rattle.std.specs.List.{fold}
use Rattle.std.proofs.lemmas.List.Sums.{fold-append}
use Rattle.bit_texts.specs.Bits.{last_bit, EndsInOne}

pub last_bit-push : (bits : List Bool) (b : Bool) → last_bit (bits ++ b ∷ []) ≡ b
last_bit-push bits b = fold-append (λ last bit. bit) false bits (b ∷ [])

last_behind : (n : ℕ) (bits : List Bool) (before b : Bool) (rest : List Bool) → drop n bits ≡ b ∷ rest → fold (λ last bit. bit) before (take (suc n) bits) ≡ b
last_behind zero [] before b rest h = absurd cc
last_behind zero (x ∷ bits) before b rest h = cc
last_behind (suc n) [] before b rest h = absurd cc
last_behind (suc n) (x ∷ bits) before b rest h = last_behind n bits x b rest h

-- the last bit of a front is the first one of what stands behind the others
pub last_bit-take : (n m : ℕ) (bits : List Bool) (b : Bool) (rest : List Bool) → m ≡ suc n → drop n bits ≡ b ∷ rest → last_bit (take m bits) ≡ b
last_bit-take n m bits b rest e h = rw e (last_behind n bits false b rest h)

-- ---- bits whose last one is a 1

pub last_bit-from_EndsInOne : (bits : List Bool) → EndsInOne bits → last_bit bits ≡ true
last_bit-from_EndsInOne bits (front, e) = ap last_bit e ∙ last_bit-push front true

pub EndsInOne-from_last_bit : (bits : List Bool) → last_bit bits ≡ true → EndsInOne bits
EndsInOne-from_last_bit [] h = absurd cc
EndsInOne-from_last_bit (b ∷ []) h = ([], cc)
EndsInOne-from_last_bit (b ∷ c ∷ bits) h = let rest = EndsInOne-from_last_bit (c ∷ bits) h in (b ∷ rest.0, ap (λ (t : List Bool). b ∷ t) rest.1)
