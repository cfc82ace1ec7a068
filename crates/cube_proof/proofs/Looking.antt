-- A clause is looked at.
use Rattle.std.proofs.Common.{◌≡◌, ◌≢◌, ◌∙◌, ◌<◌, ◌≤◌, ◌+◌, ◌-◌, ◌*◌, ◌^◌, ℕ, Bool, true, false, refl, sym, ap, subst, arith, List, [], ◌∷◌, ◌++◌, length, length-set, length-append, get_or, inl, inr}
use Rattle.std.specs.Prelude.{slice_set, slice_index_or}
use Rattle.std.specs.List.{All}
use Rattle.std.specs.declared.vec.Vec.{Vec}
use Rattle.std.specs.declared.alloc.Global.{Global}
use Rattle.std.proofs.lemmas.Bool.Decides.{eqb_tells}
use Rattle.std.proofs.lemmas.List.{get_or-set_same, get_or-set_other}
use Rattle.std.proofs.lemmas.List.Elements.{All-push}
use Rattle.std.proofs.lemmas.Option.{slice_get-get_or}
use Rattle.rsfq_ids.specs.Formula.{Clause, IsFormula, IsOver, opposite}
use Rattle.rsfq_ids.specs.declared.circuit.Cnf.{Cnf}
use Rattle.proof_arena.specs.Step.{reading}
use Rattle.proof_arena.specs.Table.{falses_of}
use Rattle.proof_arena.specs.declared.hint.HintReading.{HintReading}
use Rattle.proof_arena.specs.declared.hint.HintReading.TheVariants.{Conflict, Passed, Unit as UnitLit, NotUnit}
use Rattle.proof_arena.proofs.Marked.{opposite-lt}
use Rattle.proof_arena.proofs.Readings.{unit_over}
use Rattle.cube_proof.specs.Search.{Point, point_of, waits, count_of, IsWatched, IsWatchedAt, AreWatched, IsVisit, IsUnderWay, IsLook, HasTables, open_literals}
use Rattle.cube_proof.specs.declared.search.Search.{Search}
use Rattle.cube_proof.proofs.Clauses.{IsOnce, by_unit}
use Rattle.cube_proof.proofs.Watching.{watched_on, watched_now, counted_down, watched_fewer, watched_two, traced_on, one_fewer, apart_on}

-- ---- the number of a clause is counted down

abbrev pub lowered : Search → Vec ℕ Global → Search
lowered search left = record search { left = left }

pub lowered_on : (vars : ℕ) (clauses : List Clause) (word : List ℕ) (search : Search) (left : Vec ℕ Global) → IsUnderWay vars clauses word search
    → length left.items ≡ length clauses → IsUnderWay vars clauses word (lowered search left)
lowered_on vars clauses word search left on many = record {
  traced = on.traced;
  begun = on.begun;
  apart = on.apart;
  stacked = on.stacked;
  table = on.table;
  needed = on.needed;
  many = many;
}

other_left : (clauses : List Clause) (stack : List ℕ) (search : Search) (left : Vec ℕ Global) (place fewer other : ℕ)
    → left.items ≡ slice_set search.left.items place fewer → other ≢ place
    → IsWatchedAt clauses stack search other → IsWatchedAt clauses stack (lowered search left) other
other_left clauses stack search left place fewer other is ne w =
    let same : get_or left.items other 0 ≡ get_or search.left.items other 0 = ap (λ (l : List ℕ). get_or l other 0) is ∙ get_or-set_other search.left.items place other fewer 0 ne in
    subst (IsWatched (falses_of search.marks) stack (slice_index_or clauses other [])) (sym same) w

pub lowered_watched : (clauses : List Clause) (stack : List ℕ) (search : Search) (left : Vec ℕ Global) (place fewer : ℕ)
    → left.items ≡ slice_set search.left.items place fewer → place < length search.left.items → fewer ≤ get_or search.left.items place 0
    → (other : ℕ) → IsWatchedAt clauses stack search other → IsWatchedAt clauses stack (lowered search left) other
lowered_watched clauses stack search left place fewer is lt le other w = elim (eqb_tells other place) [
  | inr t ↦ other_left clauses stack search left place fewer other is t.1 w
  | inl t ↦
      let here : get_or left.items other 0 ≡ fewer = ap (λ (l : List ℕ). get_or l other 0) is ∙ (ap (λ k. get_or (slice_set search.left.items place fewer) k 0) t.1 ∙ get_or-set_same search.left.items place fewer 0 lt) in
      let less : get_or left.items other 0 ≤ get_or search.left.items other 0 = rw (here, t.1) le in
      watched_fewer (falses_of search.marks) stack (slice_index_or clauses other []) (get_or search.left.items other 0) (get_or left.items other 0) less w
]

-- ---- and where two literals still count, it is not read

pub not_read : (vars : ℕ) (clauses : List Clause) (word : List ℕ) (lit place fewer : ℕ) (search : Search) (left : Vec ℕ Global)
    → IsUnderWay vars clauses word search → AreWatched clauses (length clauses) (lit ∷ search.stack.items) search
    → place < length clauses → IsOnce (slice_index_or clauses place [])
    → left.items ≡ slice_set search.left.items place fewer → fewer ≡ get_or search.left.items place 0 - 1 → 1 < fewer
    → IsLook vars clauses word lit place search (lowered search left)
not_read vars clauses word lit place fewer search left on watched lt once is down two =
    let many = on.many in
    let within : place < length search.left.items = omega (arith, many, lt) in
    let le : fewer ≤ get_or search.left.items place 0 = omega arith in
    let size : length left.items ≡ length clauses = ap length is ∙ (length-set search.left.items place fewer ∙ many) in
    let here : get_or left.items place 0 ≡ fewer = ap (λ (l : List ℕ). get_or l place 0) is ∙ get_or-set_same search.left.items place fewer 0 within in
    let counts = counted_down (falses_of search.marks) search.stack.items lit (slice_index_or clauses place []) (get_or search.left.items place 0) once (watched place lt) in
    record {
      under_way = lowered_on vars clauses word search left on size;
      watched = λ other within_all. lowered_watched clauses (lit ∷ search.stack.items) search left place fewer is within le other (watched other within_all);
      here = watched_two (falses_of search.marks) search.stack.items (slice_index_or clauses place []) (get_or left.items place 0) (omega (arith, here, down, counts)) (omega (arith, here, two));
      others = λ other within_all w. lowered_watched clauses search.stack.items search left place fewer is within le other w;
      work = omega arith;
    }

-- ---- where it is read

visit_work : (vars : ℕ) (said : HintReading) (id : ℕ) (before after : Point) (conflict : Bool) (visited : Clause) → IsOver vars visited
    → said ≡ reading before.falses visited → IsVisit said id before conflict after
    → open_literals after.falses (2 * vars) + length after.stack ≤ open_literals before.falses (2 * vars) + length before.stack
visit_work vars Conflict id before after conflict visited over is visit = rw visit.1 (omega arith)
visit_work vars Passed id before after conflict visited over is visit = rw visit.1 (omega arith)
visit_work vars NotUnit id before after conflict visited over is visit = rw visit.1 (omega arith)
visit_work vars (UnitLit lit) id before after conflict visited over is visit =
    let unit = by_unit before.falses visited lit (sym is) in
    let within = opposite-lt lit vars (unit_over before.falses vars visited lit over is) in
    let fewer = one_fewer before.falses (opposite lit) (2 * vars) within unit.not_true in
    let longer = length-append before.stack (opposite lit ∷ []) in
    rw visit.1 (omega (arith, fewer, longer))

visit_stack : (vars : ℕ) (said : HintReading) (id : ℕ) (before after : Point) (conflict : Bool) (visited : Clause) → IsOver vars visited
    → said ≡ reading before.falses visited → IsVisit said id before conflict after
    → All (λ lit. lit < 2 * vars) before.stack → All (λ lit. lit < 2 * vars) after.stack
visit_stack vars Conflict id before after conflict visited over is visit all = rw visit.1 all
visit_stack vars Passed id before after conflict visited over is visit all = rw visit.1 all
visit_stack vars NotUnit id before after conflict visited over is visit all = rw visit.1 all
visit_stack vars (UnitLit lit) id before after conflict visited over is visit all =
    let within = opposite-lt lit vars (unit_over before.falses vars visited lit over is) in
    rw visit.1 (All-push (λ lit. lit < 2 * vars) before.stack (opposite lit) all within)

visit_begun : (said : HintReading) (id : ℕ) (before after : Point) (conflict : Bool) → IsVisit said id before conflict after
    → (lit : ℕ) → before.falses lit ≡ true → after.falses lit ≡ true
visit_begun Conflict id before after conflict visit lit is = rw visit.1 is
visit_begun Passed id before after conflict visit lit is = rw visit.1 is
visit_begun NotUnit id before after conflict visit lit is = rw visit.1 is
visit_begun (UnitLit unit) id before after conflict visit lit is = rw visit.1 (elim (eqb_tells lit (opposite unit)) [ inl t ↦ rw t.0 refl | inr t ↦ rw t.0 is ])

-- what a visit keeps
pub visit_on : (cnf : Cnf) (word : List ℕ) (place : ℕ) (before after : Search) (conflict : Bool) → IsFormula cnf → place < length cnf.clauses
    → IsVisit (reading (falses_of before.marks) (slice_index_or cnf.clauses place [])) place (point_of before) conflict (point_of after)
    → HasTables cnf.vars after → after.left ≡ before.left → conflict ≡ false
    → IsUnderWay cnf.vars cnf.clauses word before → IsUnderWay cnf.vars cnf.clauses word after
visit_on cnf word place before after conflict formula lt visit tables left none on =
    let said = reading (falses_of before.marks) (slice_index_or cnf.clauses place []) in
    let clause = slice_index_or cnf.clauses place [] in
    let over = formula.lits place [] lt in
    record {
      traced = traced_on said cnf.clauses word place (point_of before) (point_of after) conflict clause refl (slice_get-get_or cnf.clauses place [] lt) visit none on.traced;
      begun = λ lit is. visit_begun said place (point_of before) (point_of after) conflict visit lit (on.begun lit is);
      apart = apart_on said place (point_of before) (point_of after) conflict clause refl visit on.apart;
      stacked = visit_stack cnf.vars said place (point_of before) (point_of after) conflict clause over refl visit on.stacked;
      table = tables.marks;
      needed = tables.needed;
      many = ap (λ (v : Vec ℕ Global). length v.items) left ∙ on.many;
    }

pub visit_watched : (cnf : Cnf) (front : List ℕ) (place other : ℕ) (before after : Search) (conflict : Bool)
    → IsVisit (reading (falses_of before.marks) (slice_index_or cnf.clauses place [])) place (point_of before) conflict (point_of after)
    → after.left ≡ before.left → IsWatchedAt cnf.clauses (front ++ before.stack.items) before other → IsWatchedAt cnf.clauses (front ++ after.stack.items) after other
visit_watched cnf front place other before after conflict visit left w =
    let said = reading (falses_of before.marks) (slice_index_or cnf.clauses place []) in
    let same : get_or after.left.items other 0 ≡ get_or before.left.items other 0 = ap (λ (v : Vec ℕ Global). get_or v.items other 0) left in
    subst (IsWatched (falses_of after.marks) (front ++ after.stack.items) (slice_index_or cnf.clauses other [])) (sym same)
    (watched_on said place (point_of before) (point_of after) conflict (slice_index_or cnf.clauses place []) (slice_index_or cnf.clauses other []) front (get_or before.left.items other 0) refl visit w)

pub visit_here : (cnf : Cnf) (place : ℕ) (before after : Search) (conflict : Bool)
    → IsVisit (reading (falses_of before.marks) (slice_index_or cnf.clauses place [])) place (point_of before) conflict (point_of after)
    → after.left ≡ before.left → conflict ≡ false
    → get_or before.left.items place 0 ≤ count_of (waits (falses_of before.marks) before.stack.items) (slice_index_or cnf.clauses place [])
    → IsWatchedAt cnf.clauses after.stack.items after place
visit_here cnf place before after conflict visit left none bound =
    let said = reading (falses_of before.marks) (slice_index_or cnf.clauses place []) in
    let same : get_or after.left.items place 0 ≡ get_or before.left.items place 0 = ap (λ (v : Vec ℕ Global). get_or v.items place 0) left in
    subst (IsWatched (falses_of after.marks) after.stack.items (slice_index_or cnf.clauses place [])) (sym same)
    (watched_now said place (point_of before) (point_of after) conflict (slice_index_or cnf.clauses place []) (get_or before.left.items place 0) refl visit none bound)

pub is_read : (cnf : Cnf) (word : List ℕ) (lit place fewer : ℕ) (search : Search) (left : Vec ℕ Global) (after : Search) (conflict : Bool) → IsFormula cnf
    → IsUnderWay cnf.vars cnf.clauses word search → AreWatched cnf.clauses (length cnf.clauses) (lit ∷ search.stack.items) search
    → place < length cnf.clauses → left.items ≡ slice_set search.left.items place fewer → fewer ≡ get_or search.left.items place 0 - 1
    → IsVisit (reading (falses_of search.marks) (slice_index_or cnf.clauses place [])) place (point_of (lowered search left)) conflict (point_of after)
    → HasTables cnf.vars after → after.left ≡ left → conflict ≡ false
    → IsLook cnf.vars cnf.clauses word lit place search after
is_read cnf word lit place fewer search left after conflict formula on watched lt is down visit tables kept none =
    let many = on.many in
    let within : place < length search.left.items = omega (arith, many, lt) in
    let le : fewer ≤ get_or search.left.items place 0 = omega arith in
    let size : length left.items ≡ length cnf.clauses = ap length is ∙ (length-set search.left.items place fewer ∙ many) in
    let here : get_or left.items place 0 ≡ fewer = ap (λ (l : List ℕ). get_or l place 0) is ∙ get_or-set_same search.left.items place fewer 0 within in
    let once = formula.once place [] lt in
    let counts = counted_down (falses_of search.marks) search.stack.items lit (slice_index_or cnf.clauses place []) (get_or search.left.items place 0) once (watched place lt) in
    let mid = lowered search left in
    record {
      under_way = visit_on cnf word place mid after conflict formula lt visit tables kept none (lowered_on cnf.vars cnf.clauses word search left on size);
      watched = λ other within_all. visit_watched cnf (lit ∷ []) place other mid after conflict visit kept (lowered_watched cnf.clauses (lit ∷ search.stack.items) search left place fewer is within le other (watched other within_all));
      here = visit_here cnf place mid after conflict visit kept none (omega (arith, here, down, counts));
      others = λ other within_all w. visit_watched cnf [] place other mid after conflict visit kept (lowered_watched cnf.clauses search.stack.items search left place fewer is within le other w);
      work = visit_work cnf.vars (reading (falses_of search.marks) (slice_index_or cnf.clauses place [])) place (point_of mid) (point_of after) conflict (slice_index_or cnf.clauses place []) (formula.lits place [] lt) refl visit;
    }
