-- No value has two strings, where the first string's values are told apart by what follows.
use Rattle.std.proofs.Common.{◌≡◌, Bool, true, false, cond, sym, ◌∙◌}
use Rattle.binarisation.specs.BinString.{BinString, Value, ◌>>=◌, HasOneString}
use Rattle.binarisation.proofs.OneString.{value_one}
use Rattle.binarisation.proofs.Each.{then_one_where}
use Rattle.cabac_macroblock.proofs.Kept.{Keeps}

-- the value tells what it was made of
pub then_one_back : {A B : Type 0} (P : A → Type 0) (string : BinString A) (next : A → BinString B) (back : B → A) → Keeps P string → HasOneString string → ((x : A) → P x → HasOneString (next x))
    → ((x : A) → P x → Keeps (λ value. back value ≡ x) (next x)) → HasOneString (string >>= next)
then_one_back P string next back kept one others told =
    then_one_where P string next kept one others (λ x y first second value p q h g. sym (told x p first value h) ∙ told y q second value g)

pub put_one : {A B : Type 0} (string : BinString A) (put : A → B) → HasOneString string → ((x y : A) → put x ≡ put y → x ≡ y) → HasOneString (string >>= (λ x. Value (put x)))
put_one {A} string put one apart =
    then_one_where (λ (x : A). Unit {0}) string (λ x. Value (put x)) (λ bins value h. tt) one (λ x u. value_one (put x)) (λ x y first second value p q h g. apart x y (h.1 ∙ sym g.1))

pub if_one : {A : Type 0} (b : Bool) (one other : BinString A) → HasOneString one → HasOneString other → HasOneString (cond b one other)
if_one true one other h g = h
if_one false one other h g = g
