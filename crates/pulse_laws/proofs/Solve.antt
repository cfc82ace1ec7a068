-- A circuit with an order has values, and only one.
use Rattle.std.proofs.Common.{◌≡◌, ℕ, zero, suc, ◌+◌, ◌<◌, List, [], ◌∷◌, length, get_or, map, refl, sym, ap, subst, arith}
use Rattle.std.proofs.lemmas.Option.{slice_get_within}
use Rattle.std.proofs.lemmas.List.FromFn.{length-map-range_with_len, get_or-map-range_with_len}
use Rattle.std.specs.Prelude.{slice_get, Option, Some, None}
use Rattle.std.specs.List.{range_with_len}
use Rattle.rsfq_ids.specs.declared.circuit.Flat.{Flat}
use Rattle.rsfq_ids.specs.declared.circuit.Driver.{Driver}
use Rattle.rsfq_ids.specs.Circuit.{IsDrivenBy}

-- a bound of the heights in a list
pub bound_of : (height : Driver → ℕ) (ds : List Driver) → (r : ℕ) × ((k : ℕ) (d : Driver) → slice_get ds k ≡ Some d → height d < r)
bound_of height [] = (0, λ k d is. absurd (let l = slice_get_within [] k d is in omega arith))
bound_of height (x ∷ ds) = let rest = bound_of height ds in (suc (height x) + rest.0, bounded rest.0 rest.1)
  where
    bounded : (r : ℕ) → ((k : ℕ) (d : Driver) → slice_get ds k ≡ Some d → height d < r) → (k : ℕ) (d : Driver) → slice_get (x ∷ ds) k ≡ Some d → height d < suc (height x) + r
    bounded r each zero d is = let same : x ≡ d = cc in let e : height x ≡ height d = ap height same in omega arith
    bounded r each (suc k) d is = let h = each k d is in omega arith

-- two valuations agree on the nets of lower drivers
abbrev pub Agrees : {X : Type 0} → Flat → (Driver → ℕ) → ℕ → (ℕ → X) → (ℕ → X) → Type 0
Agrees {X} flat height top V W = (mid : ℕ) (d : Driver) → IsDrivenBy flat mid d → height d < top → V mid ≡ W mid

module _ {X : Type 0} (blank : X) (flat : Flat) (height : Driver → ℕ) (G : Driver → (ℕ → X) → X → Type 0) where
  -- what a list has at a net
  abbrev pub at_net : List X → ℕ → X
  at_net values net = get_or values net blank

  module _ (make : (net : ℕ) (d : Driver) → IsDrivenBy flat net d → (V : ℕ → X) → (b : X) × G d V b)
      (one : (net : ℕ) (d : Driver) → IsDrivenBy flat net d → (V W : ℕ → X) → Agrees flat height (height d) V W → (a b : X) → G d V a → G d W b → a ≡ b) where
    go_over : (net : ℕ) (d : Driver) → IsDrivenBy flat net d → (V W : ℕ → X) → Agrees flat height (height d) V W → (a : X) → G d V a → G d W a
    go_over net d is V W agree a g = let made = make net d is W in subst (λ b. G d W b) (sym (one net d is V W agree a made.0 g made.1)) made.1

    by_driver : (V : ℕ → X) (net : ℕ) (o : Option Driver) → slice_get flat.nets net ≡ o → X
    by_driver V net None is = blank
    by_driver V net (Some d) is = (make net d is V).0

    driven_so : (V : ℕ → X) (net : ℕ) (o : Option Driver) (e : slice_get flat.nets net ≡ o) (d : Driver) → o ≡ Some d → G d V (by_driver V net o e)
    unfolding by_driver
    driven_so V net None e d is = cc
    driven_so V net (Some c) e d is = let same : c ≡ d = cc in subst (λ x. G x V (make net c e V).0) same (make net c e V).1

    next : (ℕ → X) → ℕ → X
    next V net = by_driver V net (slice_get flat.nets net) refl

    next_is : (V : ℕ → X) (net : ℕ) (d : Driver) → IsDrivenBy flat net d → G d V (next V net)
    unfolding next
    next_is V net d is = driven_so V net (slice_get flat.nets net) refl d is

    abbrev Solves : ℕ → (ℕ → X) → Type 0
    Solves r V = (net : ℕ) (d : Driver) → IsDrivenBy flat net d → height d < r → G d V (V net)

    levels : (r : ℕ) → (V : ℕ → X) × Solves r V
    levels zero = (λ net. blank, λ net d is l. absurd (omega arith))
    levels (suc r) = let (V, solves) = levels r in (next V, step V solves)
      where
        step : (V : ℕ → X) → Solves r V → Solves (suc r) (next V)
        step V solves net d is l = go_over net d is V (next V) (λ mid c driven below. one mid c driven V V (λ m b dr l. refl) (V mid) (next V mid) (solves mid c driven (omega arith)) (next_is V mid c driven)) (next V net) (next_is V net d is)

    -- values of all nets
    pub solved : (values : List X) × (length values ≡ length flat.nets) × ((net : ℕ) (d : Driver) → IsDrivenBy flat net d → G d (at_net values) (at_net values net))
    solved =
        let bound = bound_of height flat.nets in
        let (V, solves) = levels bound.0 in
        let same : (net : ℕ) (d : Driver) → IsDrivenBy flat net d → at_net (map V (range_with_len 0 (length flat.nets))) net ≡ V net =
        λ net d is. get_or-map-range_with_len V 0 (length flat.nets) net net blank (slice_get_within flat.nets net d is) (omega arith) in (
          map V (range_with_len 0 (length flat.nets)),
          length-map-range_with_len V 0 (length flat.nets),
          λ net d is.
              subst (λ b. G d (at_net (map V (range_with_len 0 (length flat.nets)))) b) (sym (same net d is))
              (go_over net d is V (at_net (map V (range_with_len 0 (length flat.nets)))) (λ mid c driven below. sym (same mid c driven)) (V net) (solves net d is (bound.1 net d is))),
        )

  -- two valuations that solve the equations are one
  pub solved_one : (one : (net : ℕ) (d : Driver) → IsDrivenBy flat net d → (V W : ℕ → X) → Agrees flat height (height d) V W → (a b : X) → G d V a → G d W b → a ≡ b) → (V W : ℕ → X) → ((net : ℕ) (d : Driver) → IsDrivenBy flat net d → G d V (V net)) →
      ((net : ℕ) (d : Driver) → IsDrivenBy flat net d → G d W (W net)) → (r net : ℕ) (d : Driver) → IsDrivenBy flat net d → height d < r → V net ≡ W net
  solved_one one V W v w zero net d is l = absurd (omega arith)
  solved_one one V W v w (suc r) net d is l = one net d is V W (λ mid c driven below. solved_one one V W v w r mid c driven (omega arith)) (V net) (W net) (v net d is) (w net d is)
