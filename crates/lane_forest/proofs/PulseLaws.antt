-- What lanes say of pulses.
use Rattle.std.proofs.Common.{◌≡◌, ◌≢◌, inl, inr, eqb-true, eq-eqb, ℕ, zero, suc, Bool, true, false, ℤ, ◌+ℤ◌, List, [], ◌∷◌, length, get_or, refl, sym, ap, ◌∙◌, subst, arith}
use Rattle.std.proofs.lemmas.List.{get_or_past}
use Rattle.std.proofs.lemmas.Bool.{cases_lt}
use Rattle.std.proofs.lemmas.Option.{slice_get-get_or}
use Rattle.std.specs.Prelude.{Some, slice_get, nat_eq}
use Rattle.std.specs.List.{All, AllZip, Contains}
use Rattle.rsfq_ids.specs.declared.circuit.Pin.{Pin}
use Rattle.rsfq_ids.specs.declared.circuit.Reader.TheVariants as reader
use Rattle.rsfq_ids.specs.declared.offence.PathArc.{PathArc}
use Rattle.rsfq_ids.specs.declared.offence.PathPick.{PathPick}
use Rattle.rsfq_ids.specs.Design.{Design}
use Rattle.rsfq_ids.specs.Time.{total}
use Rattle.rsfq_ids.specs.Run.{Run, times_of}
use Rattle.rsfq_ids.specs.Path.{IsPick, IsPath, IsPathTo, SameDelays}
use Rattle.pulse_laws.specs.Spread.{IsSpread, IsReached}
use Rattle.pulse_laws.specs.Statements.{RunsHaveTags, RunsKeepSpreads}
use Rattle.lane_forest.specs.Forest.{arcs_at}
use Rattle.lane_forest.specs.Growth.{HasReadyRank}
use Rattle.lane_forest.specs.Table.{LaneTable, lanes_of, AreLanes}
use Rattle.lane_forest.specs.Pulses.{GoesAlong, RunsGoAlong, MayBeTold, PulsesKeepApart}
use Rattle.lane_forest.proofs.Lists.{contains_mapped, map_contains}

same_end : (a b : Pin) → Some a ≡ Some b → a ≡ b
same_end a b e = cc

abbrev no_pin : Pin
no_pin = record { reader = reader.Port 0; net = 0 }

module _ (design : Design) (lanes : LaneTable) (are : AreLanes design lanes) where
  lane_path_at : (pin lane : ℕ) (end : Pin) → slice_get design.flat.pins pin ≡ Some end → Contains (lanes_of lanes pin) lane → IsPathTo design (arcs_at lanes.arcs lane) pin
  lane_path_at pin lane end is has =
      let at = map_contains (arcs_at lanes.arcs) (lanes_of lanes pin) lane has in
      (end, is, subst (λ (xs : List PathArc). IsPath design xs end.net) at.2 ((are.paths pin end is).each at.0 (arcs_at lanes.arcs lane) at.1))

  -- a lane of a pin is a path to it
  pub lane_path : (pin lane : ℕ) → Contains (lanes_of lanes pin) lane → IsPathTo design (arcs_at lanes.arcs lane) pin
  lane_path pin lane has = elim (cases_lt pin (length design.flat.pins)) [
    | inl inside ↦ lane_path_at pin lane (get_or design.flat.pins pin no_pin) (slice_get-get_or design.flat.pins pin no_pin inside) has
    | inr past ↦
        (let none : length (lanes_of lanes pin) ≡ 0 = ap (λ (xs : List ℕ). length xs) (get_or_past lanes.pins pin [] (let n = are.pins_many in omega arith)) in
        let l = has.1 in absurd (omega arith))
  ]

  -- and each path to it is one of its lanes
  pub path_lane : (pin : ℕ) (arcs : List PathArc) → IsPathTo design arcs pin → (lane : ℕ) × Contains (lanes_of lanes pin) lane × (arcs_at lanes.arcs lane ≡ arcs)
  path_lane pin arcs (end, is, path) = contains_mapped (arcs_at lanes.arcs) (lanes_of lanes pin) arcs ((are.paths pin end is).every arcs path)

  along_one : (pin : ℕ) (end : Pin) (tag : PathPick) → slice_get design.flat.pins pin ≡ Some end → IsPick design tag → tag.ends ≡ pin → GoesAlong lanes pin tag
  along_one pin end tag is pick ends =
      let path = pick.path in
      let same : path.0 ≡ end = same_end path.0 end (sym path.1 ∙ ap (λ (p : ℕ). slice_get design.flat.pins p) ends ∙ is) in
      let has = (are.paths pin end is).every tag.arcs (subst (λ (e : Pin). IsPath design tag.arcs e.net) same path.2) in
      let lane = contains_mapped (arcs_at lanes.arcs) (lanes_of lanes pin) tag.arcs has in (lane.0, lane.1, lane.2)

  along_all : (pin : ℕ) (end : Pin) (run : Run) → slice_get design.flat.pins pin ≡ Some end → (tags : List PathPick) (times : List ℤ) → AllZip (λ tag time. IsPick design tag × (tag.ends ≡ pin) × (time ≡ (run.tick tag.number +ℤ total tag.delays))) tags times → All (GoesAlong lanes pin) tags
  along_all pin end run is [] times zip k d l = absurd (omega arith)
  along_all pin end run is (tag ∷ tags) [] zip k d l = absurd zip
  along_all pin end run is (tag ∷ tags) (time ∷ times) zip zero d l = along_one pin end tag is zip.0.0 zip.0.1
  along_all pin end run is (tag ∷ tags) (time ∷ times) zip (suc k) d l = along_all pin end run is tags times zip.1 k d (omega arith)

  pub runs_along : RunsHaveTags → HasReadyRank design → RunsGoAlong design lanes
  runs_along law ordered run is =
      let t = law design ordered.0 run ordered.1 is in
      (t.0, record { tags_are = t.1; in_order = t.2; along = λ pin end here. along_all pin end run here (get_or t.0 pin []) (times_of run.pulses end.net) (t.1.timed pin end here) })

  never : false ≡ true → ⊥
  never e = cc

  -- with two sources nothing is shared
  two_sources : (arcs : List PathArc) (delays : List ℤ) (others : List PathArc) (ends : List ℤ) → slice_get arcs 0 ≢ slice_get others 0 → SameDelays arcs delays others ends
  two_sources [] delays others ends apart = tt
  two_sources (a ∷ arcs) [] others ends apart = tt
  two_sources (a ∷ arcs) (d ∷ delays) [] ends apart = tt
  two_sources (a ∷ arcs) (d ∷ delays) (b ∷ others) [] apart = tt
  two_sources (a ∷ arcs) (d ∷ delays) (b ∷ others) (e ∷ ends) apart = λ same. absurd (apart (ap Some same))

  reached_too : (arcs others : List PathArc) (difference : ℤ) → slice_get arcs 0 ≢ slice_get others 0 → IsReached design false arcs others difference → IsReached design true arcs others difference
  reached_too arcs others difference apart (delays, ends, together, is) = (delays, ends, record { first = together.first; second = together.second; agree = λ e. two_sources arcs delays others ends apart }, is)

  spread_too : (arcs others : List PathArc) (low high : ℤ) → slice_get arcs 0 ≢ slice_get others 0 → IsSpread design false arcs others low high → IsSpread design true arcs others low high
  spread_too arcs others low high apart is = record {
    within = λ delays ends together. is.within delays ends (record { first = together.first; second = together.second; agree = λ e. absurd (never e) });
    least = reached_too arcs others low apart is.least;
    most = reached_too arcs others high apart is.most;
  }

  told_apart : (one : Bool) (x y : PathPick) (low high : ℤ) → nat_eq x.number y.number ≡ one → MayBeTold false x y → IsSpread design false x.arcs y.arcs low high → IsSpread design one x.arcs y.arcs low high
  told_apart false x y low high numbers told is = is
  told_apart true x y low high numbers (inl differ) is = absurd (differ (eqb-true x.number y.number numbers))
  told_apart true x y low high numbers (inr sources) is = spread_too x.arcs y.arcs low high sources is

  told_is : (same : Bool) (x y : PathPick) (low high : ℤ) → MayBeTold same x y → IsSpread design same x.arcs y.arcs low high → IsSpread design (nat_eq x.number y.number) x.arcs y.arcs low high
  told_is true x y low high told is = subst (λ (one : Bool). IsSpread design one x.arcs y.arcs low high) (sym (eq-eqb x.number y.number told)) is
  told_is false x y low high told is = told_apart (nat_eq x.number y.number) x y low high refl told is

  pub keep_apart : RunsKeepSpreads → (a b : ℕ) (same : Bool) (low high : ℤ) → IsSpread design same (arcs_at lanes.arcs a) (arcs_at lanes.arcs b) low high → PulsesKeepApart design lanes a b same low high
  keep_apart law a b same low high spread run tags pin other end stop i k x y is tagged here there l m x_is y_is x_arcs y_arcs told =
      law design run tags is.ticks tagged pin other end stop i k x y low high here there l m x_is y_is
      (told_is same x y low high told (subst (λ (xs : List PathArc). IsSpread design same xs y.arcs low high) (sym x_arcs) (subst (λ (ys : List PathArc). IsSpread design same (arcs_at lanes.arcs a) ys low high) (sym y_arcs) spread)))
