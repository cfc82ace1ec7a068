-- The nets that the pins of a cell read, one pin after another.
use Rattle.std.proofs.Common.{◌≡◌, ℕ, zero, suc, ◌+◌, ◌<◌, List, [], ◌∷◌, ◌++◌, length, get_or, arith, ap, subst, ◌∙◌, add-one}
use Rattle.std.proofs.lemmas.List.FromFn.{length-range_with_len, get_or-range_with_len}
use Rattle.std.specs.List.{range_with_len}
use Rattle.rsfq_ids.specs.declared.circuit.Flat.{Flat}
use Rattle.rsfq_ids.specs.declared.circuit.Reader.TheVariants as reader
use Rattle.rsfq_ids.specs.Circuit.{PinsRead, Reads}
use Rattle.pulse_laws.proofs.Zips.{zip_at, zip_push}

range_suc : (a n : ℕ) → range_with_len a (suc n) ≡ range_with_len a n ++ (a + n) ∷ []
range_suc a zero = ap (λ k. k ∷ []) (omega arith)
range_suc a (suc n) = ap (λ xs. a ∷ xs) (range_suc (a + 1) n ∙ ap (λ k. range_with_len (a + 1) n ++ k ∷ []) (omega arith))

pub PinsRead-more : (flat : Flat) (cell n : ℕ) (nets : List ℕ) (net : ℕ) → PinsRead flat cell n nets → Reads flat (reader.Pin cell n) net → PinsRead flat cell (n + 1) (nets ++ net ∷ [])
PinsRead-more flat cell n nets net front last =
    rw (add-one, range_suc 0 n) (zip_push (λ pin net. Reads flat (reader.Pin cell pin) net) (range_with_len 0 n) nets (0 + n) net front (let e : 0 + n ≡ n = omega arith in rw e last))

-- what each of the pins reads
pub pins_at : (flat : Flat) (cell count : ℕ) (nets : List ℕ) → PinsRead flat cell count nets → (pin : ℕ) → pin < count → Reads flat (reader.Pin cell pin) (get_or nets pin 0)
pins_at flat cell count nets read pin l =
    let length : length (range_with_len 0 count) ≡ count = length-range_with_len 0 count in
    let here : get_or (range_with_len 0 count) pin 0 ≡ pin = get_or-range_with_len 0 count pin 0 l ∙ omega arith in
    subst (λ (p : ℕ). Reads flat (reader.Pin cell p) (get_or nets pin 0)) here (zip_at (λ p net. Reads flat (reader.Pin cell p) net) (range_with_len 0 count) nets pin 0 0 read (omega arith))
