-- What bins spell, and what a source gave and promises.
use Rattle.std.proofs.Common.{◌≡◌, Bool, List, [], ◌∷◌, ◌++◌, Option, Some, None, refl, sym, ap, subst, ◌∙◌}
use Rattle.cabac_engine.specs.Bins.{Slot, Promises}
use Rattle.binarisation.specs.BinString.{BinString, Value, NoValue, Next, Spells, Reads, Writes, IsPrefixFree, WasGiven, WasRefused, WasPut}

-- no bins begin with the bins of two values
pub one_value : {A : Type 0} (string : BinString A) → IsPrefixFree string
one_value (Value x) [] more value other first second = (second.0, sym first.1 ∙ second.1)
one_value (Value x) (bin ∷ bins) more value other first second = absurd cc
one_value NoValue bins more value other first second = absurd first
one_value (Next slot rest) [] more value other first second = absurd first
one_value (Next slot rest) (bin ∷ bins) more value other first second = one_value (rest bin.1) bins more value other first.1 second.1

-- the bins of a value that was read were given
pub reads_gave : {S A : Type 0} (step : S → Slot → Option Bool → S → Type 0) (string : BinString A) (value : A) (s t : S) → Reads step string (Some value) s t → WasGiven step string value s t
reads_gave step (Value x) value s t read = ([], (refl, cc), read.1)
reads_gave step NoValue value s t read = absurd cc
reads_gave step (Next slot rest) value s t (None, m, took, others) = absurd cc
reads_gave step (Next slot rest) value s t (Some bit, m, took, others) =
    let more = reads_gave step (rest bit) value m t others in
    ((slot, bit) ∷ more.0, (refl, more.1), (m, took, more.2))

-- nothing was read where the source didn't have a bin, or the bins are of no value
pub reads_refused : {S A : Type 0} (step : S → Slot → Option Bool → S → Type 0) (string : BinString A) (s t : S) → Reads step string None s t → WasRefused step string s t
reads_refused step (Value x) s t read = absurd cc
reads_refused step NoValue s t read = read.1
reads_refused step (Next slot rest) s t (None, m, took, others) = (None, m, took, others.1)
reads_refused step (Next slot rest) s t (Some bit, m, took, others) = (Some bit, m, took, reads_refused step (rest bit) m t others)

-- where the bins of a value are ahead, it is read, and what follows them is ahead
pub reads_promised : {S A : Type 0} (step : S → Slot → Option Bool → S → Type 0) (string : BinString A) (bins others : List (Slot × Bool)) (value : A) (result : Option A) (s t : S)
    → Spells string bins value → Promises step s (bins ++ others) → Reads step string result s t → (result ≡ Some value) × Promises step t others
reads_promised {S} step (Value x) [] others value result s t spelled promised read = (read.0 ∙ ap Some spelled.1, subst (λ (u : S). Promises step u others) read.1 promised)
reads_promised step (Value x) (bin ∷ bins) others value result s t spelled promised read = absurd cc
reads_promised step NoValue bins others value result s t spelled promised read = absurd spelled
reads_promised step (Next slot rest) [] others value result s t spelled promised read = absurd spelled
reads_promised {S} step (Next slot rest) ((kind, bit) ∷ bins) others value result s t spelled promised (None, m, took, more) =
    let given = promised None m (subst (λ k. step s k None m) (sym spelled.0) took) in
    absurd cc
reads_promised {S} {A} step (Next slot rest) ((kind, bit) ∷ bins) others value result s t spelled promised (Some one, m, took, more) =
    let given = promised (Some one) m (subst (λ k. step s k (Some one) m) (sym spelled.0) took) in
    let is : one ≡ bit = cc in
    reads_promised step (rest bit) bins others value result m t spelled.1 given.1 (subst (λ (b : Bool). Reads step (rest b) result m t) is more)

-- the bins of a value that was written were put
pub writes_put : {S A : Type 0} (step : S → Slot → Bool → S → Type 0) (string : BinString A) (value : A) (s t : S) → Writes step string value s t → WasPut step string value s t
writes_put step (Value x) value s t written = ([], (refl, written.0), written.1)
writes_put step NoValue value s t written = absurd written
writes_put step (Next slot rest) value s t (bit, m, took, others) =
    let more = writes_put step (rest bit) value m t others in
    ((slot, bit) ∷ more.0, (refl, more.1), (m, took, more.2))
