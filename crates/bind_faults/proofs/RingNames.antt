-- A ring of modules, as a cause.
use Rattle.std.proofs.Common.{◌≡◌, ◌≢◌, ◌<◌, inl, inr, ℕ, zero, suc, List, [], ◌∷◌, ◌++◌, Option, length, get_or, refl, sym, subst, arith, Vec, Global}
use Rattle.std.specs.Prelude.{MatchOption}
use Rattle.std.specs.Option.{option_map}
use Rattle.std.specs.List.{All, AllPairs, AllZip}
use Rattle.std.proofs.lemmas.Bool.{cases_lt}
use Rattle.std.proofs.lemmas.List.Elements.{All-cons, All-nil}
use Rattle.std.proofs.lemmas.Option.{slice_get_within}
use Rattle.verilog_tree.specs.Trees.{Module}
use Rattle.bind_hierarchy.specs.Modules as hierarchy
use Rattle.bind_hierarchy.specs.Modules.{IsChain, IsOnRing}
use Rattle.bind_hierarchy.specs.Reach.{IsFirstRing}
use Rattle.bind_forms.specs.declared.fault.BindFault.TheVariants as fault
use Rattle.bind_forms.specs.Modules.{Setting, IsModuleNamed, IsTop, IsReached}
use Rattle.bind_forms.specs.Faults.{Place, IsRing}
use Rattle.bind_forms.specs.First.{Rings, StandsNowhere}
use Rattle.bind_faults.specs.Order.{IsFirstAt}
use Rattle.bind_faults.proofs.OneTop.{one_top}

module _ (modules : List Module) where
  -- a chain that goes on: one more module at its end
  joined : (at : ℕ) (rest : List ℕ) (middle back : ℕ) (more : List ℕ) → IsChain modules middle (at ∷ rest) → IsChain modules back (middle ∷ more) → IsChain modules back (at ∷ rest ++ middle ∷ more)
  joined at [] middle back more c d = (c, d)
  joined at (next ∷ rest) middle back more c d = (c.0, joined next rest middle back more c.1 d)

  -- a ring can be begun at each of its modules: before it lies a chain from the first, and behind it one back to the first
  each_on_ring : (first : ℕ) (front : List ℕ) (at : ℕ) (rest : List ℕ) → IsChain modules at (first ∷ front) → IsChain modules first (at ∷ rest) → All (IsOnRing modules) (at ∷ rest)
  each_on_ring first front at [] before behind = All-cons (IsOnRing modules) at [] (first ∷ front, joined at [] first at front behind before) (All-nil (IsOnRing modules))
  each_on_ring first front at (next ∷ rest) before behind =
      All-cons (IsOnRing modules) at (next ∷ rest) ((next ∷ rest) ++ first ∷ front, joined at (next ∷ rest) first at front behind before)
      (each_on_ring first (front ++ at ∷ []) next rest (joined first front at next [] before behind.0) behind.1)

  pub others_on_ring : (first : ℕ) (rest : List ℕ) → IsChain modules first (first ∷ rest) → All (IsOnRing modules) rest
  others_on_ring first [] chain = All-nil (IsOnRing modules)
  others_on_ring first (next ∷ rest) chain = each_on_ring first [] next rest chain.0 chain.1

  -- what a chain leads to is reached
  pub all_reached : (top at : ℕ) (rest : List ℕ) (back : ℕ) → hierarchy.IsReached modules top at → IsChain modules back (at ∷ rest) → All (hierarchy.IsReached modules top) rest
  all_reached top at [] back r c = All-nil (hierarchy.IsReached modules top)
  all_reached top at (next ∷ rest) back r c =
      let there : hierarchy.IsReached modules top next = hierarchy.Inner at next r c.0 in
      All-cons (hierarchy.IsReached modules top) next rest there (all_reached top next rest back there c.1)

  -- the modules of a chain are modules of the text
  pub chain_below : (at : ℕ) (rest : List ℕ) (back : ℕ) → IsChain modules back (at ∷ rest) → All (λ n. n < length modules) (at ∷ rest)
  chain_below at [] back c = All-cons (λ n. n < length modules) at [] (slice_get_within modules at c.holder c.there) (All-nil (λ n. n < length modules))
  chain_below at (next ∷ rest) back c = All-cons (λ n. n < length modules) at (next ∷ rest) (slice_get_within modules at c.0.holder c.0.there) (chain_below next rest back c.1)

-- each of the others differs from the first
once_rest : (first : ℕ) (rest : List ℕ) → AllPairs (λ a b. a ≢ b) (first ∷ rest) → (AllPairs (λ a b. a ≢ b) rest) × All (λ at. first ≢ at) rest
once_rest first rest once = (
  λ i j d below inside. once (suc i) (suc j) d (omega (arith, below)) (omega (arith, inside)),
  λ k d inside. once zero (suc k) d (omega arith) (omega (arith, inside)),
)

module _ (setting : Setting) (top : ℕ) (is : IsTop setting top) where
  reached_is : (at : ℕ) → IsReached setting at → hierarchy.IsReached setting.modules top at
  reached_is at r = subst (λ (n : ℕ). hierarchy.IsReached setting.modules n at) (one_top setting r.top top r.top_is is) r.reaches

  on_ring : (place : Place) (names : List (List ℕ)) → IsRing setting place names → IsOnRing setting.modules place.at
  on_ring place names ring = (ring.others, ring.chain)

  pub no_ring : ((at : ℕ) → hierarchy.IsReached setting.modules top at → IsOnRing setting.modules at → ⊥) → StandsNowhere setting Rings
  no_ring none = λ place why stands.
      let ring = stands.1 in
      none place.at (reached_is place.at ring.reached) (on_ring place stands.0 ring)

  is_ring : (first : ℕ) (rest : List ℕ) (names : List (List ℕ)) → IsChain setting.modules first (first ∷ rest) → AllPairs (λ a b. a ≢ b) (first ∷ rest) → hierarchy.IsReached setting.modules top first →
      ((other : ℕ) → other < first → hierarchy.IsReached setting.modules top other → IsOnRing setting.modules other → ⊥) → AllZip (IsModuleNamed setting) (first ∷ rest) names → IsRing setting (record { at = first; site = 0 }) names
  is_ring first rest names chain once reached least named = record {
    head = refl;
    reached = record { top = top; top_is = is; reaches = reached };
    others = rest;
    later = λ k d inside. elim (cases_lt first (get_or rest k d)) [
      | inl low ↦ low
      | inr high ↦ elim (cases_lt (get_or rest k d) first) [
        | inl less ↦ absurd (least (get_or rest k d) less (all_reached setting.modules top first rest first reached chain k d inside) (others_on_ring setting.modules first rest chain k d inside))
        | inr more ↦ absurd ((once_rest first rest once).1 k d inside (omega (arith, high, more)))
      ]
    ];
    once = (once_rest first rest once).0;
    chain = chain;
    names_are = named;
  }

  first_ring_of : (first : ℕ) (rest ring : List ℕ) (names : List (List ℕ)) → ring ≡ first ∷ rest → IsChain setting.modules first ring → AllPairs (λ a b. a ≢ b) ring → hierarchy.IsReached setting.modules top first →
      ((other : ℕ) → other < first → hierarchy.IsReached setting.modules top other → IsOnRing setting.modules other → ⊥) → AllZip (IsModuleNamed setting) ring names → IsFirstAt Rings setting (fault.Recursive names)
  first_ring_of first rest ring names begins chain once reached least named = record {
    place = record { at = first; site = 0 };
    stands = (names, is_ring first rest names (subst (λ (l : List ℕ). IsChain setting.modules first l) begins chain) (subst (λ (l : List ℕ). AllPairs (λ a b. a ≢ b) l) begins once) reached least (subst (λ (l : List ℕ). AllZip (IsModuleNamed setting) l names) begins named), refl);
    first = λ before other earlier stands. elim earlier [
      | inl low ↦ least before.at low (reached_is before.at stands.1.reached) (on_ring before stands.0 stands.1)
      | inr low ↦ omega (arith, low.1)
    ];
  }

  pub first_ring : (ring : List ℕ) (names : List (List ℕ)) → IsFirstRing setting.modules top ring → AllZip (IsModuleNamed setting) ring names → IsFirstAt Rings setting (fault.Recursive names)
  first_ring ring names found named = first_ring_of found.first found.rest ring names found.begins found.chain found.once found.reached found.least named

pub ring_below : (modules : List Module) (top : ℕ) (ring : List ℕ) → IsFirstRing modules top ring → All (λ n. n < length modules) ring
ring_below modules top ring found =
    let chain : IsChain modules found.first (found.first ∷ found.rest) = subst (λ (l : List ℕ). IsChain modules found.first l) found.begins found.chain in
    subst (λ (l : List ℕ). All (λ n. n < length modules) l) (sym found.begins) (chain_below modules found.first found.rest found.first chain)

-- the ring that was found, or that there is none
abbrev pub FoundRing : List Module → ℕ → Option (Vec ℕ Global) → Type 0
FoundRing modules top found = MatchOption (option_map (λ (ring : Vec ℕ Global). ring.items) found) ((at : ℕ) → hierarchy.IsReached modules top at → IsOnRing modules at → ⊥) (IsFirstRing modules top)
