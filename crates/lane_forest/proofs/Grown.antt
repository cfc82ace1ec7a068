-- Lanes that grow pin by pin.
use Rattle.std.proofs.Common.{◌≡◌, ◌≢◌, ◌⊎◌, inl, inr, ℕ, zero, suc, ◌+◌, ◌-◌, ◌<◌, ◌≤◌, List, [], ◌∷◌, ◌++◌, map, length, get_or, take, drop, set, refl, sym, ap, ◌∙◌, subst, arith, length-append}
use Rattle.std.proofs.lemmas.List.{length-map, length-set, length-take-le, get_or-take, get_or_past, get_or_default, get_or-append_right, get_or-map, get_or-set_same, get_or-set_other, same_lists, take_more, drop_more, take-append-drop}
use Rattle.std.proofs.lemmas.List.Sums.{sum_by-cons, sum_by_more, sum_by-set, sum-map}
use Rattle.std.proofs.lemmas.List.Elements.{All-set, All-weaker, All-map, Contains-push, Contains-append_left, Contains-push_cases}
use Rattle.std.proofs.lemmas.List.FromFn.{length-range_with_len, get_or-range_with_len}
use Rattle.std.proofs.lemmas.Bool.{cases_lt, cases_eq}
use Rattle.std.proofs.lemmas.Option.{slice_get_within, slice_get-get_or, get_or_from_slice_get}
use Rattle.std.specs.Prelude.{Option, Some, None, slice_get}
use Rattle.std.specs.List.{All, AllZip, Contains, range_with_len, sum_by}
use Rattle.rsfq_ids.specs.declared.circuit.Pin.{Pin}
use Rattle.rsfq_ids.specs.declared.circuit.Reader.{Reader}
use Rattle.rsfq_ids.specs.declared.circuit.Driver.TheVariants as driver
use Rattle.rsfq_ids.specs.declared.circuit.Reader.TheVariants as reader
use Rattle.rsfq_ids.specs.declared.offence.PathArc.{PathArc}
use Rattle.rsfq_ids.specs.declared.offence.PathArc.TheVariants as arc
use Rattle.rsfq_ids.specs.Design.{Design}
use Rattle.rsfq_ids.specs.Circuit.{IsPin, IsDrivenBy}
use Rattle.lane_forest.specs.declared.node.LaneNode.{LaneNode}
use Rattle.lane_forest.specs.declared.growth.Span.{Span}
use Rattle.lane_forest.specs.declared.growth.Growth.{Growth}
use Rattle.lane_forest.specs.Forest.{Grove, arcs_at}
use Rattle.lane_forest.specs.Paths.{ArePathsTo, HasPaths, IsCountedUpTo, readers_along}
use Rattle.lane_forest.specs.Lanes.{HasSums, FollowsParent}
use Rattle.lane_forest.specs.Growth.{lanes_in, count_in, paths_at, AreNodes, AreGatesAlong, IsSpan, IsSafe, IsServed, IsMade, IsPinOrder, IsGrown}
use Rattle.lane_forest.proofs.Grows.{at_kept}
use Rattle.lane_forest.proofs.Through.{range_contains}

-- a list that was added behind another, read by its places
pub map_added : {X : Type 0} (xs ys : List X) (d : X) (from count : ℕ) → length xs ≡ from → length ys ≡ count → map (λ k. get_or (xs ++ ys) k d) (range_with_len from count) ≡ ys
map_added xs ys d from count at many =
    same_lists (map (λ k. get_or (xs ++ ys) k d) (range_with_len from count)) ys
    (length-map (range_with_len from count) (λ k. get_or (xs ++ ys) k d) ∙ length-range_with_len from count ∙ sym many)
    (λ k e l.
    (let n = length-map (range_with_len from count) (λ k. get_or (xs ++ ys) k d) in
    let m = length-range_with_len from count in
    get_or-map (λ k. get_or (xs ++ ys) k d) (range_with_len from count) k 0 e (omega arith) ∙ ap (λ (i : ℕ). get_or (xs ++ ys) i d) (get_or-range_with_len from count k 0 (omega arith))
    ∙ get_or-append_right xs ys from (from + k) d at (omega arith) ∙ (let i : from + k - from ≡ k = omega arith in ap (λ (j : ℕ). get_or ys j d) i) ∙ get_or_default ys k d e (omega arith)))

pub sum_agree : {X : Type 0} (f g : X → ℕ) (xs : List X) → ((x : X) → Contains xs x → f x ≡ g x) → sum_by f xs ≡ sum_by g xs
sum_agree f g [] same = refl
sum_agree f g (x ∷ xs) same =
    let here : f x ≡ g x = same x (0, omega arith, refl) in
    let rest : sum_by f xs ≡ sum_by g xs = sum_agree f g xs (λ y (k, l, e). same y (suc k, omega arith, e)) in
    let a = sum_by-cons f x xs in
    let b = sum_by-cons g x xs in omega arith

zip_length : {A B : Type 0} (R : A → B → Type 0) (xs : List A) (ys : List B) → AllZip R xs ys → length xs ≡ length ys
zip_length R [] [] zip = refl
zip_length R [] (y ∷ ys) zip = absurd zip
zip_length R (x ∷ xs) [] zip = absurd zip
zip_length R (x ∷ xs) (y ∷ ys) zip = ap suc (zip_length R xs ys zip.1)

zip_at : {A B : Type 0} (R : A → B → Type 0) (xs : List A) (ys : List B) (i : ℕ) (d : A) (e : B) → AllZip R xs ys → i < length xs → R (get_or xs i d) (get_or ys i e)
zip_at R [] ys i d e zip l = absurd (omega arith)
zip_at R (x ∷ xs) [] i d e zip l = absurd zip
zip_at R (x ∷ xs) (y ∷ ys) zero d e zip l = zip.0
zip_at R (x ∷ xs) (y ∷ ys) (suc i) d e zip l = zip_at R xs ys i d e zip.1 (omega arith)

zip_front : {A B : Type 0} (R : A → B → Type 0) (S : A → ℕ → Type 0) (f : B → ℕ) (n : ℕ) (xs : List A) (ys : List B) → AllZip R xs ys → ((x : A) (y : B) → R x y → Contains (take n ys) y → S x (f y)) → AllZip S (take n xs) (map f (take n ys))
zip_front R S f zero xs ys zip step = tt
zip_front R S f (suc n) [] [] zip step = tt
zip_front R S f (suc n) [] (y ∷ ys) zip step = absurd zip
zip_front R S f (suc n) (x ∷ xs) [] zip step = absurd zip
zip_front R S f (suc n) (x ∷ xs) (y ∷ ys) zip step = (step x y zip.0 (0, omega arith, refl), zip_front R S f n xs ys zip.1 (λ a b r (k, l, e). step a b r (suc k, omega arith, e)))

contains_nothing : {X : Type 0} (xs : List X) (x : X) → xs ≡ [] → Contains xs x → ⊥
contains_nothing xs x none (k, l, e) = let n : length xs ≡ 0 = ap (λ ys. length ys) none in omega arith

few_of : (s : Span) → s ≡ record { from = 0; to = 0 } → length (range_with_len s.from (s.to - s.from)) ≤ 64
few_of s e = let l = length-range_with_len s.from (s.to - s.from) in let t : s.to ≡ 0 = ap (λ (u : Span). u.to) e in omega arith

none_of : (s : Span) → s ≡ record { from = 0; to = 0 } → (k : ℕ) → k < length (range_with_len s.from (s.to - s.from)) → ⊥
none_of s e k l = let n = length-range_with_len s.from (s.to - s.from) in let t : s.to ≡ 0 = ap (λ (u : Span). u.to) e in omega arith

in_span : (many lane : ℕ) (s : Span) (k : ℕ) → k < length (range_with_len s.from (s.to - s.from)) → get_or (range_with_len s.from (s.to - s.from)) k lane ≡ lane → IsSpan many s → lane < many
in_span many lane s k l e fits =
    let n = length-range_with_len s.from (s.to - s.from) in
    let g : get_or (range_with_len s.from (s.to - s.from)) k lane ≡ s.from + k = get_or-range_with_len s.from (s.to - s.from) k lane (omega arith) in
    let i = fits.inside in
    let o = fits.order in omega arith

same_pin : (a b : Pin) → Some a ≡ Some b → a ≡ b
same_pin a b e = cc

agree_on : {X Y : Type 0} (f g : X → Y) (xs : List X) → ((x : X) → Contains xs x → f x ≡ g x) → map f xs ≡ map g xs
agree_on f g [] same = refl
agree_on f g (x ∷ xs) same = let here : f x ≡ g x = same x (0, omega arith, refl) in let rest : map f xs ≡ map g xs = agree_on f g xs (λ y (k, l, e). same y (suc k, omega arith, e)) in cc

module _ (design : Design) (old : Growth) (safe : IsSafe design old) where
  -- no pin has too many lanes
  pub count_few : (pin : ℕ) → count_in old.spans.items pin ≤ 64
  count_few pin = elim (cases_lt pin (length old.spans.items)) [
    | inl inside ↦
        (let f = (safe.spans_fit pin (record { from = 0; to = 0 }) inside).few in
        let e = length-range_with_len (get_or old.spans.items pin (record { from = 0; to = 0 })).from ((get_or old.spans.items pin (record { from = 0; to = 0 })).to - (get_or old.spans.items pin (record { from = 0; to = 0 })).from) in omega arith)
    | inr past ↦ few_of (get_or old.spans.items pin (record { from = 0; to = 0 })) (get_or_past old.spans.items pin (record { from = 0; to = 0 }) past)
  ]

  -- lanes of pins are there
  pub lane_inside : (pin lane : ℕ) → Contains (lanes_in old.spans.items pin) lane → lane < length old.forest.nodes
  lane_inside pin lane (k, l, e) = elim (cases_lt pin (length old.spans.items)) [
    | inl inside ↦ in_span (length old.forest.nodes) lane (get_or old.spans.items pin (record { from = 0; to = 0 })) k l e (safe.spans_fit pin (record { from = 0; to = 0 }) inside)
    | inr past ↦ absurd (none_of (get_or old.spans.items pin (record { from = 0; to = 0 })) (get_or_past old.spans.items pin (record { from = 0; to = 0 }) past) k l)
  ]

module _ (design : Design) (order pins : List ℕ) (ord : IsPinOrder design order pins) (place pin : ℕ) (end : Pin) (pin_is : slice_get pins place ≡ Some pin) (end_is : slice_get design.flat.pins pin ≡ Some end) (old : Growth) (grown : IsGrown design pins place old) where
  pub pins_served : (cell out : ℕ) → IsDrivenBy design.flat end.net (driver.Out cell out) → IsServed design cell old
  pins_served cell out driven row input at net of passed is = grown.paths at (record { reader = reader.Pin cell input; net = net }) (ord.served place pin end cell out input at net pin_is end_is driven is) is

  place_in : place < length pins
  place_in = slice_get_within pins place pin pin_is

  -- the pin has had no lanes
  fresh : Contains (take place pins) pin → ⊥
  fresh (k, l, e) =
      let p = place_in in
      let n = length-take-le place pins (omega arith) in
      let a : get_or pins k pin ≡ pin = sym (get_or-take place pins k pin (omega arith)) ∙ e in
      let b : get_or pins place pin ≡ pin = get_or_from_slice_get pins place pin pin pin_is in
      ord.once k place pin (omega arith) p (a ∙ sym b)

  pub reached : (paths : List (List PathArc)) (count : ℕ) → ArePathsTo design end.net paths → length paths ≡ count → IsCountedUpTo design order end.reader (length old.forest.nodes) count
  reached paths count are many =
      let R : Reader → ℕ → Type 0 = λ by p. (net : ℕ) × IsPin design.flat p by net in
      let n = zip_length R (readers_along design order) pins ord.along in
      let p = place_in in
      let here = zip_at R (readers_along design order) pins place end.reader pin ord.along (omega arith) in
      let same : get_or pins place pin ≡ pin = get_or_from_slice_get pins place pin pin pin_is in
      let by_is : get_or (readers_along design order) place end.reader ≡ end.reader = ap (λ (e : Pin). e.reader) (same_pin _ _ (sym (subst (λ (x : ℕ). slice_get design.flat.pins x ≡ Some (record { reader = get_or (readers_along design order) place end.reader; net = here.0 })) same here.1) ∙ end_is)) in
      record {
        before = take place (readers_along design order);
        behind = drop (place + 1) (readers_along design order);
        parts = sym (take-append-drop place (readers_along design order)) ∙ ap (λ (xs : List Reader). take place (readers_along design order) ++ xs) (drop_more (readers_along design order) place end.reader (omega arith))
            ∙ ap (λ (r : Reader). take place (readers_along design order) ++ r ∷ drop (place + 1) (readers_along design order)) by_is;
        counts = map (count_in old.spans.items) (take place pins);
        counted = zip_front R (HasPaths design) (count_in old.spans.items) place (readers_along design order) pins ord.along
            (λ by q (net, is) has. record { net = net; paths = paths_at old q; reads = (q, is); are = grown.paths q (record { reader = by; net = net }) has is; many = length-map (lanes_in old.spans.items q) (arcs_at old.forest.arcs) });
        few = All-map (λ k. k ≤ 64) (count_in old.spans.items) (take place pins) (λ i d m. count_few design old grown.safe (get_or (take place pins) i d));
        earlier_is = grown.total ∙ sym (sum-map (count_in old.spans.items) (take place pins));
        small = grown.safe.small;
        here = record { net = end.net; paths = paths; reads = (pin, end_is); are = are; many = many };
      }

  module _ (mid : Growth) (made : IsMade design end.net old mid) where
    pub made_many : length mid.forest.nodes ≡ length old.forest.nodes + length made.paths
    made_many =
        let e = made.even in
        let f = grown.safe.even in
        let n : length mid.forest.arcs ≡ length old.forest.arcs + length made.paths = ap (λ (xs : List (List PathArc)). length xs) made.arcs ∙ length-append old.forest.arcs made.paths in omega arith

    module _ (new : Growth) (span : Span) (from_is : span.from ≡ length old.forest.nodes) (to_is : span.to ≡ length mid.forest.nodes) (forest : new.forest ≡ mid.forest) (spans : new.spans.items ≡ set mid.spans.items pin span) (few : span.to ≤ span.from + 64) (small : length mid.forest.nodes ≤ 1000000) where
      pin_in : pin < length old.spans.items
      pin_in = let l = slice_get_within design.flat.pins pin end end_is in let m = grown.safe.spans_many in omega arith

      spans_set : new.spans.items ≡ set old.spans.items pin span
      spans_set = spans ∙ ap (λ (xs : List Span). set xs pin span) made.spans

      lanes_here : lanes_in new.spans.items pin ≡ range_with_len span.from (span.to - span.from)
      lanes_here = ap (λ (s : Span). range_with_len s.from (s.to - s.from)) (ap (λ (xs : List Span). get_or xs pin (record { from = 0; to = 0 })) spans_set ∙ get_or-set_same old.spans.items pin span (record { from = 0; to = 0 }) pin_in)

      lanes_other : (other : ℕ) → other ≢ pin → lanes_in new.spans.items other ≡ lanes_in old.spans.items other
      lanes_other other apart = ap (λ (s : Span). range_with_len s.from (s.to - s.from)) (ap (λ (xs : List Span). get_or xs other (record { from = 0; to = 0 })) spans_set ∙ get_or-set_other old.spans.items pin other span (record { from = 0; to = 0 }) apart)

      arcs_new : new.forest.arcs ≡ old.forest.arcs ++ made.paths
      arcs_new = ap (λ (g : Grove). g.arcs) forest ∙ made.arcs

      nodes_new : new.forest.nodes ≡ mid.forest.nodes
      nodes_new = ap (λ (g : Grove). g.nodes) forest

      arcs_old : (lane : ℕ) → lane < length old.forest.nodes → arcs_at new.forest.arcs lane ≡ arcs_at old.forest.arcs lane
      arcs_old lane l = ap (λ (xs : List (List PathArc)). arcs_at xs lane) arcs_new ∙ at_kept old.forest.arcs made.paths lane (let e = grown.safe.even in omega arith)

      none_here : lanes_in old.spans.items pin ≡ []
      none_here = grown.later pin fresh

      -- what a pin has, it keeps
      keeps : (other lane : ℕ) → Contains (lanes_in old.spans.items other) lane → Contains (lanes_in new.spans.items other) lane
      keeps other lane has = elim (cases_eq other pin) [
        | inl same ↦ absurd (contains_nothing (lanes_in old.spans.items other) lane (ap (λ (p : ℕ). lanes_in old.spans.items p) same ∙ none_here) has)
        | inr apart ↦ subst (λ (ls : List ℕ). Contains ls lane) (sym (lanes_other other apart)) has
      ]

      paths_here : paths_at new pin ≡ made.paths
      paths_here =
          let m = made_many in
          let e = grown.safe.even in
          ap (λ (ls : List ℕ). map (arcs_at new.forest.arcs) ls) lanes_here ∙ ap (λ (xs : List (List PathArc)). map (arcs_at xs) (range_with_len span.from (span.to - span.from))) arcs_new ∙ map_added old.forest.arcs made.paths [] span.from (span.to - span.from) (omega arith) (omega arith)

      paths_other : (other : ℕ) → other ≢ pin → paths_at new other ≡ paths_at old other
      paths_other other apart =
          ap (λ (ls : List ℕ). map (arcs_at new.forest.arcs) ls) (lanes_other other apart)
          ∙ agree_on (arcs_at new.forest.arcs) (arcs_at old.forest.arcs) (lanes_in old.spans.items other) (λ lane has. arcs_old lane (lane_inside design old grown.safe other lane has))

      follows : (last : PathArc) (parent : Option ℕ) → FollowsParent design (lanes_in old.spans.items) last parent → FollowsParent design (lanes_in new.spans.items) last parent
      follows (arc.Port port) None is = is
      follows (arc.Port port) (Some parent) is = is
      follows (arc.Through cell input out) None is = is
      follows (arc.Through cell input out) (Some parent) (at, net, is, has) = (at, net, is, keeps at parent has)

      nodes_are : AreNodes design new.spans.items new.forest
      nodes_are lane node has =
          let is = made.nodes lane node (subst (λ (xs : List LaneNode). slice_get xs lane ≡ Some node) nodes_new has) in
          record { parent = follows node.last node.parent is.parent; sums = subst (λ (g : Grove). HasSums design (arcs_at g.arcs lane) node.low node.high) (sym forest) is.sums }

      one_more : take (place + 1) pins ≡ take place pins ++ pin ∷ []
      one_more = take_more pins place pin place_in ∙ ap (λ (p : ℕ). take place pins ++ p ∷ []) (get_or_from_slice_get pins place pin pin pin_is)

      not_pin : (other : ℕ) → Contains (take place pins) other → other ≢ pin
      not_pin other has same = fresh (subst (λ (p : ℕ). Contains (take place pins) p) same has)

      paths_new : (other : ℕ) (stop : Pin) → Contains (take place pins) other ⊎ (pin ≡ other) → slice_get design.flat.pins other ≡ Some stop → ArePathsTo design stop.net (paths_at new other)
      paths_new other stop (inl has) is = subst (λ (ps : List (List PathArc)). ArePathsTo design stop.net ps) (sym (paths_other other (not_pin other has))) (grown.paths other stop has is)
      paths_new other stop (inr same) is =
          let ends : end ≡ stop = same_pin end stop (sym end_is ∙ ap (λ (p : ℕ). slice_get design.flat.pins p) same ∙ is) in
          subst (λ (p : ℕ). ArePathsTo design stop.net (paths_at new p)) same (subst (λ (ps : List (List PathArc)). ArePathsTo design stop.net ps) (sym paths_here) (subst (λ (e : Pin). ArePathsTo design e.net made.paths) ends made.are))

      home_new : (lane : ℕ) → lane < length new.forest.nodes → (at : ℕ) × Contains (take (place + 1) pins) at × Contains (lanes_in new.spans.items at) lane
      home_new lane l = elim (cases_lt lane (length old.forest.nodes)) [
        | inl before ↦
            (let h = grown.home lane before in
            (h.0, subst (λ (ps : List ℕ). Contains ps h.0) (sym one_more) (Contains-append_left (take place pins) (pin ∷ []) h.0 h.1), keeps h.0 lane h.2))
        | inr behind ↦
            (let n : length new.forest.nodes ≡ length mid.forest.nodes = ap (λ (xs : List LaneNode). length xs) nodes_new in (
              pin,
              subst (λ (ps : List ℕ). Contains ps pin) (sym one_more) (Contains-push (take place pins) pin),
              subst (λ (ls : List ℕ). Contains ls lane) (sym lanes_here) (range_contains span.from (span.to - span.from) lane (omega arith) (omega arith)),
            ))
      ]

      total_new : length new.forest.nodes ≡ sum_by (count_in new.spans.items) (take (place + 1) pins)
      total_new =
          let n : length new.forest.nodes ≡ length mid.forest.nodes = ap (λ (xs : List LaneNode). length xs) nodes_new in
          let m = made_many in
          let t = grown.total in
          let s = sum_agree (count_in old.spans.items) (count_in new.spans.items) (take place pins) (λ other has. ap (λ (ls : List ℕ). length ls) (sym (lanes_other other (not_pin other has)))) in
          let u = sum_by_more (count_in new.spans.items) pins place pin place_in in
          let g : count_in new.spans.items (get_or pins place pin) ≡ count_in new.spans.items pin = ap (λ (p : ℕ). count_in new.spans.items p) (get_or_from_slice_get pins place pin pin pin_is) in
          let h : count_in new.spans.items pin ≡ span.to - span.from = ap (λ (ls : List ℕ). length ls) lanes_here ∙ length-range_with_len span.from (span.to - span.from) in omega arith

      whole_new : length new.forest.nodes ≡ sum_by (λ s. s.to - s.from) new.spans.items
      whole_new =
          let n : length new.forest.nodes ≡ length mid.forest.nodes = ap (λ (xs : List LaneNode). length xs) nodes_new in
          let m = made_many in
          let w = grown.whole in
          let old_span : Span = get_or old.spans.items pin (record { from = 0; to = 0 }) in
          let z : length (range_with_len old_span.from (old_span.to - old_span.from)) ≡ 0 = ap (λ (ls : List ℕ). length ls) none_here in
          let y = length-range_with_len old_span.from (old_span.to - old_span.from) in
          let s = sum_by-set (λ (s : Span). s.to - s.from) old.spans.items pin span (record { from = 0; to = 0 }) pin_in in
          let e : sum_by (λ (s : Span). s.to - s.from) new.spans.items ≡ sum_by (λ (s : Span). s.to - s.from) (set old.spans.items pin span) = ap (λ (xs : List Span). sum_by (λ (s : Span). s.to - s.from) xs) spans_set in omega arith

      safe_new : IsSafe design new
      safe_new =
          let n : length new.forest.nodes ≡ length mid.forest.nodes = ap (λ (xs : List LaneNode). length xs) nodes_new in
          let m = made_many in
          record {
            spans_many = ap (λ (xs : List Span). length xs) spans_set ∙ length-set old.spans.items pin span ∙ grown.safe.spans_many;
            spans_fit = subst (λ (xs : List Span). All (IsSpan (length new.forest.nodes)) xs) (sym spans_set)
                (All-set (IsSpan (length new.forest.nodes)) old.spans.items pin span (record { order = omega arith; inside = omega arith; few = few })
                (All-weaker (IsSpan (length old.forest.nodes)) (IsSpan (length new.forest.nodes)) (λ s fits. record { order = fits.order; inside = (let i = fits.inside in omega arith); few = fits.few }) old.spans.items grown.safe.spans_fit));
            even = (let e = made.even in ap (λ (g : Grove). length g.arcs) forest ∙ e ∙ ap (λ (g : Grove). length g.nodes) (sym forest));
            nodes = nodes_are;
            gates = subst (λ (g : Grove). AreGatesAlong design g) (sym forest) made.gates;
            small = omega arith;
          }

      pub grown_more : IsGrown design pins (place + 1) new
      grown_more = record {
        safe = safe_new;
        paths = λ other stop has is. paths_new other stop (Contains-push_cases (take place pins) pin other (subst (λ (ps : List ℕ). Contains ps other) one_more has)) is;
        later = λ other none.
            lanes_other other (λ same. none (subst (λ (ps : List ℕ). Contains ps other) (sym one_more) (subst (λ (p : ℕ). Contains (take place pins ++ pin ∷ []) p) (sym same) (Contains-push (take place pins) pin))))
            ∙ grown.later other (λ has. none (subst (λ (ps : List ℕ). Contains ps other) (sym one_more) (Contains-append_left (take place pins) (pin ∷ []) other has)));
        home = home_new;
        total = total_new;
        whole = whole_new;
      }

-- each pin of the list is there
pub pin_there : (design : Design) (order pins : List ℕ) → IsPinOrder design order pins → (place pin : ℕ) → slice_get pins place ≡ Some pin → (end : Pin) × (slice_get design.flat.pins pin ≡ Some end)
pin_there design order pins ord place pin pin_is =
    let l = slice_get_within pins place pin pin_is in
    let same = get_or_from_slice_get pins place pin pin pin_is in
    let inside : pin < length design.flat.pins = subst (λ (p : ℕ). p < length design.flat.pins) same (ord.inside place pin l) in
    (get_or design.flat.pins pin (record { reader = reader.Port 0; net = 0 }), slice_get-get_or design.flat.pins pin (record { reader = reader.Port 0; net = 0 }) inside)
