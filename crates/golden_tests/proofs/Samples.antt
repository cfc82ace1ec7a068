-- A circuit and its bench for tests: they are well formed.
use Rattle.std.proofs.Common.{◌≡◌, ◌≢◌, ◌∙◌, ◌<◌, ◌+◌, ◌*◌, ℕ, zero, suc, Bool, true, false, refl, rules, ap, sym, subst, arith, List, [], ◌∷◌, length, get_or, Option, Some}
use Rattle.std.specs.Prelude.{slice_get, replicate, map, codes, pos, ◌==◌}
use Rattle.std.proofs.lemmas.Bool.{eqb-false}
use Rattle.std.proofs.lemmas.List.Elements.{All-nil, All-cons}
use Rattle.std.proofs.lemmas.List.Kept.{AllPairs-cons}
use Rattle.std.proofs.lemmas.Option.{same_Some, none-some}
use Rattle.std.proofs.lemmas.List.{length-replicate}
use Rattle.golden_aig.specs.declared.graph.And.{And}
use Rattle.golden_aig.specs.Aig.{IsAig}
use Rattle.rsfq_ids.specs.declared.circuit.Flat.{Flat}
use Rattle.rsfq_ids.specs.declared.circuit.Bench.{Bench}
use Rattle.rsfq_ids.specs.declared.circuit.PortBit.{PortBit}
use Rattle.rsfq_ids.specs.declared.circuit.PortUse.{PortUse}
use Rattle.rsfq_ids.specs.declared.circuit.PortUse.TheVariants as used
use Rattle.rsfq_ids.specs.WellFormed.{AreDistinct, IsBench, FitsUse, IsTime, IsPositiveTime}

abbrev pub sample_ports : List PortBit
sample_ports = record { name = codes "clk"; output = false } ∷ record { name = codes "y"; output = true } ∷ record { name = codes "b"; output = false } ∷ record { name = codes "a"; output = false } ∷ record { name = codes "z"; output = true } ∷ []

abbrev pub sample_uses : List PortUse
sample_uses = used.Clock ∷ used.Strobed (record { offset = pos 0; setup = pos 1; hold = pos 1 }) ∷ used.Arrival (pos 0) (pos 0) ∷ used.Arrival (pos 0) (pos 0) ∷ used.Strobed (record { offset = pos 0; setup = pos 1; hold = pos 1 }) ∷ []

first_of_text : List ℕ → ℕ
first_of_text [] = 0
first_of_text (x ∷ xs) = x

apart : (x y : List ℕ) → (first_of_text x == first_of_text y) ≡ false → x ≢ y
apart x y e same = eqb-false (first_of_text x) (first_of_text y) e (ap first_of_text same)

Apart : List ℕ → List ℕ → Type 0
Apart x y = x ≢ y

pub sample_names : AreDistinct (map (λ (port : PortBit). port.name) sample_ports)
unfolding Apart first_of_text
sample_names =
    let clk = codes "clk" in
    let y = codes "y" in
    let b = codes "b" in
    let a = codes "a" in
    let z = codes "z" in
    let none = All-nil (Apart z) in
    AllPairs-cons Apart clk (y ∷ b ∷ a ∷ z ∷ []) (All-cons (Apart clk) y (b ∷ a ∷ z ∷ []) (apart clk y refl) (All-cons (Apart clk) b (a ∷ z ∷ []) (apart clk b refl) (All-cons (Apart clk) a (z ∷ []) (apart clk a refl) (All-cons (Apart clk) z [] (apart clk z refl) (All-nil (Apart clk))))))
    (AllPairs-cons Apart y (b ∷ a ∷ z ∷ []) (All-cons (Apart y) b (a ∷ z ∷ []) (apart y b refl) (All-cons (Apart y) a (z ∷ []) (apart y a refl) (All-cons (Apart y) z [] (apart y z refl) (All-nil (Apart y)))))
    (AllPairs-cons Apart b (a ∷ z ∷ []) (All-cons (Apart b) a (z ∷ []) (apart b a refl) (All-cons (Apart b) z [] (apart b z refl) (All-nil (Apart b))))
    (AllPairs-cons Apart a (z ∷ []) (All-cons (Apart a) z [] (apart a z refl) (All-nil (Apart a)))
    (AllPairs-cons Apart z [] none (λ i j d lt le. absurd (omega arith))))))

abbrev pub sample_bench : Bench
sample_bench = record { period = pos 20000; jitter = pos 0; clock = 0; uses = sample_uses }

time : IsTime (pos 0)
time = record { from = search rules; to = search rules }

one : IsPositiveTime (pos 1)
one = record { from = search rules; to = search rules }

period_ok : IsPositiveTime (pos 20000)
period_ok = record { from = search rules; to = search rules }

bit_at : (name : List ℕ) (output : Bool) → PortBit
bit_at name output = record { name = name; output = output }

fits_at : (at : ℕ) (bit port : PortBit) (role u : PortUse) → Some bit ≡ Some port → Some role ≡ Some u → FitsUse sample_bench at bit role → FitsUse sample_bench at port u
fits_at at bit port role u p e ok = subst (λ (b : PortBit). FitsUse sample_bench at b u) (same_Some bit port p) (subst (FitsUse sample_bench at bit) (same_Some role u e) ok)

arrives : (at : ℕ) (name : List ℕ) → at ≢ 0 → FitsUse sample_bench at (bit_at name false) (used.Arrival (pos 0) (pos 0))
unfolding bit_at
arrives at name ne = (ne, refl, time, time, search rules)

strobed : (at : ℕ) (name : List ℕ) → FitsUse sample_bench at (bit_at name true) (used.Strobed (record { offset = pos 0; setup = pos 1; hold = pos 1 }))
unfolding bit_at
strobed at name = (refl, time, search rules, one, one)

fits : (at : ℕ) (port : PortBit) (u : PortUse) → slice_get sample_ports at ≡ Some port → slice_get sample_uses at ≡ Some u → FitsUse sample_bench at port u
unfolding bit_at
fits zero port u p e = fits_at 0 (bit_at (codes "clk") false) port used.Clock u p e (refl, refl)
fits (suc zero) port u p e = fits_at 1 (bit_at (codes "y") true) port _ u p e (strobed 1 (codes "y"))
fits (suc (suc zero)) port u p e = fits_at 2 (bit_at (codes "b") false) port _ u p e (arrives 2 (codes "b") (λ n. absurd (omega arith)))
fits (suc (suc (suc zero))) port u p e = fits_at 3 (bit_at (codes "a") false) port _ u p e (arrives 3 (codes "a") (λ n. absurd (omega arith)))
fits (suc (suc (suc (suc zero)))) port u p e = fits_at 4 (bit_at (codes "z") true) port _ u p e (strobed 4 (codes "z"))
fits (suc (suc (suc (suc (suc at))))) port u p e = absurd cc

pub sample_fits : (flat : Flat) (bench : Bench) → flat.ports ≡ sample_ports → bench ≡ sample_bench → IsBench flat bench
sample_fits flat bench ports is = subst (IsBench flat) (sym is) (record {
  ports = ap length (sym ports);
  uses = λ at port u p e. fits at port u (subst (λ (ps : List PortBit). slice_get ps at ≡ Some port) ports p) e;
  clock = refl;
  period = period_ok;
  jitter = time;
})

zeros_low : (n top k d : ℕ) → 0 < top → k < length {A = ℕ} (replicate n 0) → get_or (replicate n 0) k d < top
zeros_low zero top k d low lt = absurd (omega arith)
zeros_low (suc n) top zero d low lt = low
zeros_low (suc n) top (suc k) d low lt = zeros_low n top k d low (omega arith)

pub sample_graph : (inputs n : ℕ) (ands : List And) (outputs : List ℕ) (ins outs : List (Option (List ℕ))) → ands ≡ [] → outputs ≡ replicate n 0 → inputs < 1000 → length ins ≡ inputs → length outs ≡ n
    → IsAig (record { inputs = inputs; ands = ands; outputs = outputs; in_names = ins; out_names = outs })
sample_graph inputs n ands outputs ins outs no_ands constants small in_count out_count =
    subst (λ (gates : List And). IsAig (record { inputs = inputs; ands = gates; outputs = outputs; in_names = ins; out_names = outs })) (sym no_ands)
    (subst (λ (literals : List ℕ). IsAig (record { inputs = inputs; ands = []; outputs = literals; in_names = ins; out_names = outs })) (sym constants) (record {
      size = omega arith;
      ands = λ place one is. absurd (none-some one is);
      outputs = λ k d lt. zeros_low n (2 * (inputs + 0 + 1)) k d (omega arith) lt;
      in_names = in_count;
      out_names = out_count ∙ sym (length-replicate n 0);
    }))
