-- A step along a wire keeps the walk, and serves the net that it goes along.
use Rattle.std.proofs.Common.{◌≡◌, ◌∙◌, ◌<◌, ◌≤◌, ◌+◌, ◌⊎◌, inl, inr, ℕ, zero, suc, Bool, true, false, cond, List, [], ◌∷◌, ◌++◌, length, take, Option, Some, None, Result, Ok, Err, OnOk, refl, sym, ap, subst, arith, get_or, set, replicate, length-append, length-set}
use Rattle.std.specs.Prelude.{slice_get}
use Rattle.std.specs.List.{Contains}
use Rattle.std.proofs.lemmas.List.{length-replicate}
use Rattle.std.proofs.lemmas.List.Elements.{Contains-append_left, Contains-push, Contains-push_cases}
use Rattle.std.proofs.lemmas.Bool.Decides.{eqb_tells}
use Rattle.std.proofs.lemmas.Option.{slice_get_within, slice_get-get_or}
use Rattle.rsfq_ids.specs.declared.circuit.Flat.{Flat}
use Rattle.rsfq_ids.specs.declared.circuit.Pin.{Pin}
use Rattle.rsfq_ids.specs.declared.circuit.Driver.TheVariants as driver
use Rattle.rsfq_ids.specs.declared.circuit.Reader.{Reader}
use Rattle.rsfq_ids.specs.declared.circuit.Reader.TheVariants as reader
use Rattle.rsfq_ids.specs.Circuit.{IsDrivenBy, IsPin, Reads}
use Rattle.rsfq_ids.specs.Offence.{ReadsFrom}
use Rattle.rsfq_ids.specs.Order.{IsOrder}
use Rattle.rsfq_ids.specs.WellFormed.{IsFlat}
use Rattle.flat_form.specs.Table.{jtl_table}
use Rattle.flat_form.specs.Walking.{AreReaders, first_output, IsMarked, reach_seen, reach_order, IsWalk, IsServed, AreInputsServed, AreCellsServed, Grows, Extends, Comes}
use Rattle.flat_form.proofs.Lists.{some_same, got_contained, contains_none, got_none, split_got, take_front, take_less, got_first, got_rest}
use Rattle.flat_form.proofs.Circuits.{driver_is, pin_is}
use Rattle.flat_form.proofs.PinByPin.{same_default}
use Rattle.flat_form.proofs.Marks.{count_set, unseen_within, seen_within, seen_either, set_grows, set_is, set_from, all_seen, unmarked, no_mark}

-- ---- what a step that may want memory did

pub both_ok : {A E : Type 0} {P Q R : Type 0} (r : Result A E) → OnOk r P → OnOk r Q → (P → Q → R) → OnOk r R
both_ok (Ok x) p q f = f p q
both_ok (Err e) p q f = tt

pub three_ok : {A E : Type 0} {P Q R S : Type 0} (r : Result A E) → OnOk r P → OnOk r Q → OnOk r R → (P → Q → R → S) → OnOk r S
three_ok (Ok x) p q s f = f p q s
three_ok (Err e) p q s f = tt

-- ---- a step

-- what was seen stays so
pub seen_grows : (by : Option Reader) (seen : List Bool) → Grows seen (reach_seen by seen)
seen_grows None seen c e = e
seen_grows (Some (reader.Port port)) seen c e = e
seen_grows (Some (reader.Pin cell at)) seen c e = go (get_or seen cell true) where
  go : (b : Bool) → get_or (cond b seen (set seen cell true)) c false ≡ true
  go true = e
  go false = set_grows seen cell c e

extends_same : (order : List ℕ) → Extends order order
extends_same order = record { longer = omega arith; same = λ place cell l e. e }

extends_more : (order : List ℕ) (cell : ℕ) → Extends order (order ++ cell ∷ [])
extends_more order cell = record { longer = omega (arith, length-append order (cell ∷ [])); same = λ place c l e. back place c l (split_got order (cell ∷ []) place c e) } where
  back : (place c : ℕ) → place < length order → ((slice_get order place ≡ Some c) × (place < length order)) ⊎ ((j : ℕ) × (place ≡ length order + j) × (slice_get (cell ∷ []) j ≡ Some c)) → slice_get order place ≡ Some c
  back place c l (inl h) = h.0
  back place c l (inr h) = let e = h.1 in absurd (omega arith)

pub order_extends : (by : Option Reader) (seen : List Bool) (order : List ℕ) → Extends order (reach_order by seen order)
order_extends None seen order = extends_same order
order_extends (Some (reader.Port port)) seen order = extends_same order
order_extends (Some (reader.Pin cell at)) seen order = go (get_or seen cell true) where
  go : (b : Bool) → Extends order (cond b order (order ++ cell ∷ []))
  go true = extends_same order
  go false = extends_more order cell

module _ (flat : Flat) (fits : IsFlat jtl_table flat) where
  -- a cell reads one net
  one_net : (cell at also net other : ℕ) → Reads flat (reader.Pin cell at) net → Reads flat (reader.Pin cell also) other → net ≡ other
  one_net cell at also net other r q =
      let p : r.0 ≡ cell = (pin_is flat fits r.0 cell at net r.1).0 in
      let s : q.0 ≡ cell = (pin_is flat fits q.0 cell also other q.1).0 in
      let one = subst (λ (k : ℕ). IsPin flat k (reader.Pin cell at) net) p r.1 in
      let two = subst (λ (k : ℕ). IsPin flat k (reader.Pin cell also) other) s q.1 in
      let same : record { reader = reader.Pin cell at; net = net } ≡ record { reader = reader.Pin cell also; net = other } =
      some_same {X = Pin} (record { reader = reader.Pin cell at; net = net }) (record { reader = reader.Pin cell also; net = other }) (sym one ∙ two) in
      ap (λ (x : Pin). x.net) same

  -- the net of an input comes from no cell
  pub input_comes : (order : List ℕ) (net : ℕ) → net < first_output flat → Comes flat order net
  input_comes order net l before out is = let d = driver_is flat fits net before out is in let e = d.0 in absurd (omega arith)

  -- the net of a cell of the order
  pub output_comes : (order : List ℕ) (cell : ℕ) → Contains order cell → Comes flat order (first_output flat + cell)
  output_comes order cell c before out is =
      let d = driver_is flat fits (first_output flat + cell) before out is in
      let same : cell ≡ before = let e = d.0 in omega arith in
      subst (Contains order) same c

  module _ (readers : List (Option Reader)) (are : AreReaders flat (length flat.pins) readers) where
    read_by : (net cell at : ℕ) → get_or readers net None ≡ Some (reader.Pin cell at) → Reads flat (reader.Pin cell at) net
    read_by net cell at e = let f = are.found net (reader.Pin cell at) e in (f.0, f.2)

    reader_of : (net cell at : ℕ) → Reads flat (reader.Pin cell at) net → get_or readers net None ≡ Some (reader.Pin cell at)
    reader_of net cell at r = are.kept r.0 net (reader.Pin cell at) (slice_get_within flat.pins r.0 _ r.1) r.1

    pub is_reader : (net : ℕ) (by : Option Reader) → net < length flat.nets → by ≡ get_or readers net by → by ≡ get_or readers net None
    is_reader net by l e = e ∙ same_default readers net by None (let n = are.nets in omega arith)

    pub is_marked : (net : ℕ) (by : Option Reader) → by ≡ get_or readers net None → IsMarked (length flat.cells) by
    is_marked net None e = tt
    is_marked net (Some (reader.Port port)) e = tt
    is_marked net (Some (reader.Pin cell at)) e = let r = read_by net cell at (sym e) in (pin_is flat fits r.0 cell at net r.1).1

    grown : (seen : List Bool) (order : List ℕ) (net cell at : ℕ) → IsWalk flat seen order → Comes flat order net → Reads flat (reader.Pin cell at) net → get_or seen cell true ≡ false → IsWalk flat (set seen cell true) (order ++ cell ∷ [])
    grown seen order net cell at w come reads fresh = record {
      flags = length-set seen cell true ∙ w.flags;
      count = let a = count_set seen cell fresh in let b = w.count in omega (arith, length-append order (cell ∷ []));
      seen_in = λ c e. elim (set_from seen cell c e) [ inl q ↦ subst (Contains (order ++ cell ∷ [])) (sym q) (Contains-push order cell) | inr h ↦ Contains-append_left order (cell ∷ []) c (w.seen_in c h) ];
      in_seen = λ c h. elim (Contains-push_cases order cell c h) [
        | inl g ↦ set_grows seen cell c (w.in_seen c g)
        | inr e ↦ subst (λ (k : ℕ). get_or (set seen cell true) k false ≡ true) e (set_is seen cell (unseen_within seen cell fresh))
      ];
      after = λ place c before e from. step place c before from (split_got order (cell ∷ []) place c e);
    }
      where
        one_item : (j c : ℕ) → slice_get (cell ∷ []) j ≡ Some c → (j ≡ 0) × (cell ≡ c)
        one_item zero c e = (refl, got_first cell [] c e)
        one_item (suc j) c e = absurd (got_none j c (got_rest cell [] j c e))

        step : (place c before : ℕ) → ReadsFrom flat c before → ((slice_get order place ≡ Some c) × (place < length order)) ⊎ ((j : ℕ) × (place ≡ length order + j) × (slice_get (cell ∷ []) j ≡ Some c))
            → Contains (take place (order ++ cell ∷ [])) before
        step place c before from (inl g) = subst (λ (t : List ℕ). Contains t before) (sym (take_less order (cell ∷ []) place g.1)) (w.after place c before g.0 from)
        step place c before (pin, out, behind, drv, r) (inr g) =
            let last = one_item g.0 c g.2 in
            let place_is : place ≡ length order = let a = g.1 in let b = last.0 in omega arith in
            let same : net ≡ behind = one_net cell at pin net behind reads (subst (λ (k : ℕ). Reads flat (reader.Pin k pin) behind) (sym last.1) r) in
            let whole : take place (order ++ cell ∷ []) ≡ order = ap (λ (k : ℕ). take k (order ++ cell ∷ [])) place_is ∙ take_front order (cell ∷ []) in
            subst (λ (t : List ℕ). Contains t before) (sym whole) (come before out (subst (λ (k : ℕ). IsDrivenBy flat k (driver.Out before out)) (sym same) drv))

    pub walk_step : (seen : List Bool) (order : List ℕ) (net : ℕ) (by : Option Reader) → IsWalk flat seen order → Comes flat order net → by ≡ get_or readers net None → IsWalk flat (reach_seen by seen) (reach_order by seen order)
    walk_step seen order net None w come e = w
    walk_step seen order net (Some (reader.Port port)) w come e = w
    walk_step seen order net (Some (reader.Pin cell at)) w come e = go (get_or seen cell true) refl where
      go : (b : Bool) → get_or seen cell true ≡ b → IsWalk flat (cond b seen (set seen cell true)) (cond b order (order ++ cell ∷ []))
      go true is = w
      go false is = grown seen order net cell at w come (read_by net cell at (sym e)) is

    pub step_served : (seen : List Bool) (order : List ℕ) (net : ℕ) (by : Option Reader) → IsWalk flat seen order → by ≡ get_or readers net None → IsServed flat (reach_seen by seen) net
    step_served seen order net by w e cell at r =
        let is : by ≡ Some (reader.Pin cell at) = e ∙ reader_of net cell at r in
        let l : cell < length seen = let a = (pin_is flat fits r.0 cell at net r.1).1 in let f = w.flags in omega arith in
        subst (λ (o : Option Reader). get_or (reach_seen o seen) cell false ≡ true) (sym is) (go cell l (get_or seen cell true) refl)
      where
        go : (cell : ℕ) → cell < length seen → (b : Bool) → get_or seen cell true ≡ b → get_or (cond b seen (set seen cell true)) cell false ≡ true
        go cell l true is = sym (seen_either seen cell l) ∙ is
        go cell l false is = set_is seen cell l

  -- ---- nets and cells that are served

  -- one input more
  pub inputs_more : (seen more : List Bool) (net : ℕ) → AreInputsServed flat seen net → Grows seen more → IsServed flat more net → AreInputsServed flat more (net + 1)
  inputs_more seen more net all grows here other l cell at r = elim (eqb_tells other net) [
    | inl t ↦ here cell at (subst (λ (k : ℕ). Reads flat (reader.Pin cell at) k) t.1 r)
    | inr t ↦ let ne = t.1 in grows cell (all other (omega arith) cell at r)
  ]

  -- what a cell of the order that stands at a place drives is served
  pub cells_more : (seen more : List Bool) (order longer : List ℕ) (place cell : ℕ) → place < length order → slice_get order place ≡ Some cell → AreCellsServed flat seen order place → Grows seen more → Extends order longer
      → IsServed flat more (first_output flat + cell) → AreCellsServed flat more longer (place + 1)
  cells_more seen more order longer place cell lt at all grows extends here other before c l is from = elim (eqb_tells other place) [
    | inl t ↦
        let before_is : cell ≡ before = some_same cell before (sym at ∙ subst (λ (k : ℕ). slice_get order k ≡ Some before) t.1 (extends.same other before (let e = t.1 in omega arith) is)) in
        served c before from before_is
    | inr t ↦ let ne = t.1 in grows c (all other before c (omega arith) (extends.same other before (omega arith) is) from)
  ] where
    served : (c before : ℕ) → ReadsFrom flat c before → cell ≡ before → get_or more c false ≡ true
    served c before (pin, out, net, drv, r) before_is =
        let net_is : net ≡ first_output flat + cell = let e = (driver_is flat fits net before out drv).0 in omega arith in
        here c pin (subst (λ (k : ℕ). Reads flat (reader.Pin c pin) k) net_is r)

  -- ---- the order

  pub walked_within : (seen : List Bool) (order : List ℕ) → IsWalk flat seen order → (cell : ℕ) → Contains order cell → cell < length flat.cells
  walked_within seen order w cell c = let l = seen_within seen cell (w.in_seen cell c) in let f = w.flags in omega arith

  pub order_of : (seen : List Bool) (order : List ℕ) → IsWalk flat seen order → length flat.cells ≤ length order → IsOrder flat order
  order_of seen order w le = record {
    cells = λ k d l. walked_within seen order w (get_or order k d) (got_contained order k (get_or order k d) (slice_get-get_or order k d l));
    each = λ cell l. w.seen_in cell (all_seen seen (let n = w.count in omega arith) cell (let f = w.flags in omega arith));
    once = let n = w.count in omega arith;
    after = w.after;
  }

  -- ---- the start

  pub start : (seen : List Bool) → seen ≡ replicate (length flat.cells) false → IsWalk flat seen []
  start seen e = subst (λ (s : List Bool). IsWalk flat s []) (sym e) (record {
    flags = length-replicate (length flat.cells) false;
    count = let u = unmarked (length flat.cells) in omega arith;
    seen_in = λ c h. absurd (let n = no_mark (length flat.cells) c in let bad : false ≡ true = sym n ∙ h in cc);
    in_seen = λ c h. absurd (contains_none c h);
    after = λ place cell before f from. absurd (got_none place cell f);
  })
