-- The root of a tournament is its best leaf.
use Rattle.std.proofs.Common.{◌≡◌, ◌∙◌, ◌<◌, ◌≤◌, ◌+◌, ◌*◌, ◌-◌, ◌/◌, ◌^◌, ◌⊎◌, inl, inr, zero, suc, ℕ, Bool, true, false, refl, sym, ap, ap₂, subst, arith, List, [], ◌++◌, length, set, take, drop, append-nil}
use Rattle.std.specs.Prelude.{◌≢◌, ◌==◌, ◌&&◌, ◌||◌, nat_lt, if◌then◌else◌, Option, Some, None}
use Rattle.std.proofs.lemmas.Bool.{cases_Bool, cases_lt, cases_eq, eqb-true}
use Rattle.std.proofs.lemmas.Option.{none-some, same_Some}
use Rattle.std.proofs.Math.ListN.{length-set}
use Rattle.std.proofs.lemmas.List.{drop_all, take_all, get_or_past, get_or-set_same, get_or-set_other}
use Rattle.variable_order.specs.declared.order.Ranked.{Ranked}
use Rattle.variable_order.specs.declared.order.Seat.{Seat}
use Rattle.variable_order.specs.Seats.{seat_at, IsBest, IsGreatest}
use Rattle.variable_order.specs.Tree.{node_at, outranks, better, IsRight, AreRight, AreRightBut, leaf, AreLeaves}

-- one comes at most as high as another
abbrev AtMost : Option Ranked → Option Ranked → Type 0
AtMost None other = Unit
AtMost (Some one) None = ⊥
AtMost (Some one) (Some other) = (one.score < other.score) ⊎ ((one.score ≡ other.score) × (one.var ≤ other.var))

most_self : (one : Option Ranked) → AtMost one one
most_self None = tt
most_self (Some one) = inr (refl, omega arith)

most_trans : (a b c : Option Ranked) → AtMost a b → AtMost b c → AtMost a c
most_trans None b c one two = tt
most_trans (Some a) None c one two = absurd one
most_trans (Some a) (Some b) None one two = absurd two
most_trans (Some a) (Some b) (Some c) one two = elim one [
  | inl l ↦ elim two [ inl m ↦ inl (omega arith) | inr m ↦ let e : b.score ≡ c.score = m.0 in inl (omega arith) ]
  | inr l ↦
      let e : a.score ≡ b.score = l.0 in
      let v : a.var ≤ b.var = l.1 in
      elim two [ inl m ↦ inl (omega arith) | inr m ↦ let f : b.score ≡ c.score = m.0 in let w : b.var ≤ c.var = m.1 in inr (omega arith, omega arith) ]
]

-- what outranks
outranks_is : (a b : Ranked) → outranks a b ≡ true → (b.score < a.score) ⊎ ((a.score ≡ b.score) × (b.var < a.var))
outranks_is a b h = grind arith

outranks_not : (a b : Ranked) → outranks a b ≡ false → (a.score < b.score) ⊎ ((a.score ≡ b.score) × (a.var ≤ b.var))
outranks_not a b h = grind arith

better_left : (one other : Option Ranked) → AtMost one (better one other)
better_left None other = tt
better_left (Some a) None = most_self (Some a)
better_left (Some a) (Some b) = elim (cases_Bool (outranks a b)) [
  | inl h ↦ rw h (most_self (Some a))
  | inr h ↦ rw h (outranks_not a b h)
]

better_right : (one other : Option Ranked) → AtMost other (better one other)
better_right None other = most_self other
better_right (Some a) None = tt
better_right (Some a) (Some b) = elim (cases_Bool (outranks a b)) [
  | inl h ↦ rw h (elim (outranks_is a b h) [ inl l ↦ inl l | inr l ↦ let v : b.var < a.var = l.1 in inr (sym l.0, omega arith) ])
  | inr h ↦ rw h (most_self (Some b))
]

better_one : (one other : Option Ranked) → (better one other ≡ one) ⊎ (better one other ≡ other)
better_one None other = inr refl
better_one (Some a) None = inl refl
better_one (Some a) (Some b) = elim (cases_Bool (outranks a b)) [
  | inl h ↦ inl (rw h refl)
  | inr h ↦ inr (rw h refl)
]

-- each node comes at most as high as the root
below_root : (tree : List (Option Ranked)) (count fuel node : ℕ) → AreRight count tree → node ≤ fuel → 0 < node → node < 2 * count → AtMost (node_at tree node) (node_at tree 1)
below_root tree count zero node right l up in_tree = absurd (omega arith)
below_root tree count (suc fuel) node right l up in_tree = elim (cases_eq node 1) [
  | inl e ↦ subst (λ n. AtMost (node_at tree n) (node_at tree 1)) (sym e) (most_self (node_at tree 1))
  | inr d ↦
      let parent = node / 2 in
      let is : IsRight tree parent = right parent (omega arith) (omega arith) in
      let rest : AtMost (node_at tree parent) (node_at tree 1) = below_root tree count fuel parent right (omega arith) (omega arith) (omega arith) in
      let child : AtMost (node_at tree node) (node_at tree parent) = elim (cases_eq node (2 * parent)) [
        | inl e ↦ subst (λ n. AtMost (node_at tree n) (node_at tree parent)) (sym e) (subst (AtMost (node_at tree (2 * parent))) (sym is) (better_left (node_at tree (2 * parent)) (node_at tree (2 * parent + 1))))
        | inr o ↦
            let e : node ≡ 2 * parent + 1 = omega arith in
            subst (λ n. AtMost (node_at tree n) (node_at tree parent)) (sym e) (subst (AtMost (node_at tree (2 * parent + 1))) (sym is) (better_right (node_at tree (2 * parent)) (node_at tree (2 * parent + 1))))
      ] in
      most_trans (node_at tree node) (node_at tree parent) (node_at tree 1) child rest
]

-- what a node holds is in a leaf
from_leaf : (tree : List (Option Ranked)) (count fuel node : ℕ) → AreRight count tree → 2 * count ≤ node + fuel → 0 < node → node < 2 * count → (var : ℕ) × ((var < count) × (node_at tree (count + var) ≡ node_at tree node))
from_leaf tree count zero node right l up in_tree = absurd (omega arith)
from_leaf tree count (suc fuel) node right l up in_tree = elim (cases_lt node count) [
  | inr leaf_node ↦ let e : count + (node - count) ≡ node = omega arith in (node - count, (omega arith, ap (node_at tree) e))
  | inl inner ↦
      let is : IsRight tree node = right node up inner in
      elim (better_one (node_at tree (2 * node)) (node_at tree (2 * node + 1))) [
        | inl e ↦ let r = from_leaf tree count fuel (2 * node) right (omega arith) (omega arith) (omega arith) in (r.0, (r.1.0, r.1.1 ∙ sym (is ∙ e)))
        | inr e ↦ let r = from_leaf tree count fuel (2 * node + 1) right (omega arith) (omega arith) (omega arith) in (r.0, (r.1.0, r.1.1 ∙ sym (is ∙ e)))
      ]
]

-- a leaf that holds something is that of a variable that is there
leaf_some : (seat : Seat) (var : ℕ) (best : Ranked) → leaf seat var ≡ Some best → (seat.present ≡ true) × ((seat.score ≡ best.score) × (var ≡ best.var))
leaf_some seat var best e = elim (cases_Bool seat.present) [
  | inl h ↦ let same : record { score = seat.score; var = var } ≡ best = same_Some _ best (rw h at e) in (h, (ap (λ (r : Ranked). r.score) same, ap (λ (r : Ranked). r.var) same))
  | inr h ↦ absurd (none-some best (rw h at e))
]

leaf_here : (seat : Seat) (var : ℕ) → seat.present ≡ true → leaf seat var ≡ Some (record { score = seat.score; var = var })
leaf_here seat var h = rw h refl

-- a variable that is there is known
pub here_known : (seats : List Seat) (var : ℕ) → (seat_at seats var).present ≡ true → var < length seats
here_known seats var h = elim (cases_lt var (length seats)) [
  | inl l ↦ l
  | inr past ↦ let off : (seat_at seats var).present ≡ false = ap (λ (s : Seat). s.present) (get_or_past seats var (record { score = 0; present = false }) past) in let bad : true ≡ false = sym h ∙ off in absurd (cc)
]

-- the leaf of a variable that is there comes at most as high as the root
here_below : (seats : List Seat) (tree : List (Option Ranked)) (other : ℕ) → AreRight (length seats) tree → AreLeaves seats (length seats) tree → (seat_at seats other).present ≡ true
    → AtMost (Some (record { score = (seat_at seats other).score; var = other })) (node_at tree 1)
here_below seats tree other right leaves h =
    let known : other < length seats = here_known seats other h in
    let is : node_at tree (length seats + other) ≡ Some (record { score = (seat_at seats other).score; var = other }) = leaves other known ∙ leaf_here (seat_at seats other) other h in
    subst (λ o. AtMost o (node_at tree 1)) is (below_root tree (length seats) (length seats + other) (length seats + other) right (omega arith) (omega arith) (omega arith))

pub root_none : (seats : List Seat) (tree : List (Option Ranked)) → AreRight (length seats) tree → AreLeaves seats (length seats) tree → node_at tree 1 ≡ None → IsGreatest seats None
root_none seats tree right leaves root = λ var. elim (cases_Bool (seat_at seats var).present) [
  | inr off ↦ off
  | inl here ↦
      let top : AtMost (Some (record { score = (seat_at seats var).score; var = var })) (node_at tree 1) = here_below seats tree var right leaves here in
      absurd (subst (AtMost (Some (record { score = (seat_at seats var).score; var = var }))) root top)
]

pub root_some : (seats : List Seat) (tree : List (Option Ranked)) (best : Ranked) → 0 < length seats → AreRight (length seats) tree → AreLeaves seats (length seats) tree → node_at tree 1 ≡ Some best → IsGreatest seats (Some best.var)
root_some seats tree best some right leaves root =
    let from = from_leaf tree (length seats) (2 * length seats) 1 right (omega arith) (omega arith) (omega arith) in
    let held : leaf (seat_at seats from.0) from.0 ≡ Some best = sym (leaves from.0 from.1.0) ∙ (from.1.1 ∙ root) in
    let is = leaf_some (seat_at seats from.0) from.0 best held in
    let var : from.0 ≡ best.var = is.1.1 in
    let score : (seat_at seats best.var).score ≡ best.score = ap (λ v. (seat_at seats v).score) (sym var) ∙ is.1.0 in
    record {
      known = subst (λ v. v < length seats) var from.1.0;
      here = ap (λ v. (seat_at seats v).present) (sym var) ∙ is.0;
      others = λ other h d.
          let top : AtMost (Some (record { score = (seat_at seats other).score; var = other })) (Some best) =
          subst (AtMost (Some (record { score = (seat_at seats other).score; var = other }))) root (here_below seats tree other right leaves h) in
          elim top [
            | inl low ↦ let l : (seat_at seats other).score < best.score = low in inl (omega arith)
            | inr same ↦ let e : (seat_at seats other).score ≡ best.score = same.0 in let l : other ≤ best.var = same.1 in let n : other ≡ best.var → ⊥ = d in inr (omega arith, omega arith)
          ];
    }

-- one node more is right
pub right_above : (tree : List (Option Ranked)) (count node : ℕ) (best : Option Ranked) → length tree ≡ 2 * count → 0 < node → node < count → AreRightBut node count tree
    → best ≡ better (node_at tree (2 * node)) (node_at tree (2 * node + 1)) → AreRightBut (node / 2) count (set tree node best)
right_above tree count node best size up below right is = λ other above in_tree differ.
    let kept : (place : ℕ) → place ≢ node → node_at (set tree node best) place ≡ node_at tree place = λ place d. get_or-set_other tree node place best None d in
    let left : node_at (set tree node best) (2 * other) ≡ node_at tree (2 * other) = kept (2 * other) (λ e. differ (omega arith)) in
    let next : node_at (set tree node best) (2 * other + 1) ≡ node_at tree (2 * other + 1) = kept (2 * other + 1) (λ e. differ (omega arith)) in
    elim (cases_eq other node) [
      | inl e ↦
          let here : node_at (set tree node best) other ≡ best = ap (node_at (set tree node best)) e ∙ get_or-set_same tree node best None (omega arith) in
          let was : best ≡ better (node_at tree (2 * other)) (node_at tree (2 * other + 1)) = is ∙ ap (λ n. better (node_at tree (2 * n)) (node_at tree (2 * n + 1))) (sym e) in
          here ∙ (was ∙ ap₂ better (sym left) (sym next))
      | inr d ↦ kept other d ∙ (right other above in_tree d ∙ ap₂ better (sym left) (sym next))
    ]

-- a leaf that changes leaves all right but the node above it
pub leaf_set : (tree : List (Option Ranked)) (count place : ℕ) (now : Option Ranked) → count ≤ place → AreRight count tree → AreRightBut (place / 2) count (set tree place now)
leaf_set tree count place now l right = λ node up below differ.
    let kept : (other : ℕ) → other ≢ place → node_at (set tree place now) other ≡ node_at tree other = λ other d. get_or-set_other tree place other now None d in
    let left : node_at (set tree place now) (2 * node) ≡ node_at tree (2 * node) = kept (2 * node) (λ e. differ (omega arith)) in
    let next : node_at (set tree place now) (2 * node + 1) ≡ node_at tree (2 * node + 1) = kept (2 * node + 1) (λ e. differ (omega arith)) in
    kept node (λ e. omega arith) ∙ (right node up below ∙ ap₂ better (sym left) (sym next))

-- all are right where the one that is left out is right too
pub right_all : (tree : List (Option Ranked)) (count node : ℕ) → AreRightBut node count tree → (node ≡ 0) ⊎ IsRight tree node → AreRight count tree
right_all tree count node right here = λ other up below. elim (cases_eq other node) [
  | inr d ↦ right other up below d
  | inl e ↦ elim here [
    | inl z ↦ absurd (omega arith)
    | inr is ↦ subst (IsRight tree) (sym e) is
  ]
]

-- the leaves after another seat
pub leaves_set : (seats : List Seat) (tree new : List (Option Ranked)) (var : ℕ) (seat : Seat) → length tree ≡ 2 * length seats → var < length seats → AreLeaves seats (length seats) tree
    → ((count place : ℕ) → length (set tree (length seats + var) (leaf seat var)) ≡ 2 * count → count ≤ place → node_at new place ≡ node_at (set tree (length seats + var) (leaf seat var)) place)
    → AreLeaves (set seats var seat) (length seats) new
leaves_set seats tree new var seat size known leaves kept = λ other l.
    let here : node_at new (length seats + other) ≡ node_at (set tree (length seats + var) (leaf seat var)) (length seats + other) =
    kept (length seats) (length seats + other) (length-set tree (length seats + var) (leaf seat var) ∙ size) (omega arith) in
    elim (cases_eq other var) [
      | inl e ↦
          let put : node_at (set tree (length seats + var) (leaf seat var)) (length seats + other) ≡ leaf seat var =
          ap (λ v. node_at (set tree (length seats + var) (leaf seat var)) (length seats + v)) e ∙ get_or-set_same tree (length seats + var) (leaf seat var) None (omega arith) in
          let is : seat_at (set seats var seat) other ≡ seat = ap (seat_at (set seats var seat)) e ∙ get_or-set_same seats var seat (record { score = 0; present = false }) known in
          here ∙ (put ∙ ap₂ leaf (sym is) (sym e))
      | inr d ↦
          let put : node_at (set tree (length seats + var) (leaf seat var)) (length seats + other) ≡ node_at tree (length seats + other) =
          get_or-set_other tree (length seats + var) (length seats + other) (leaf seat var) None (λ e. d (omega arith)) in
          let is : seat_at (set seats var seat) other ≡ seat_at seats other = get_or-set_other seats var other seat (record { score = 0; present = false }) d in
          here ∙ (put ∙ (leaves other l ∙ ap (λ s. leaf s other) (sym is)))
    ]

-- what the fields keep after another seat
pub record Put (seats : List Seat) (tree : List (Option Ranked)) : Type 0 where
  pub few : length seats < 2 ^ 32
  pub size : length tree ≡ 2 * length seats
  pub right : AreRight (length seats) tree
  pub leaves : AreLeaves seats (length seats) tree

pub put_kept : (seats : List Seat) (tree mid new : List (Option Ranked)) (var place : ℕ) (seat : Seat) (now : Option Ranked) → length seats < 2 ^ 32 → length tree ≡ 2 * length seats → AreLeaves seats (length seats) tree
    → var < length seats → place ≡ length seats + var → now ≡ leaf seat var → mid ≡ set tree place now → length new ≡ length mid
    → ((count : ℕ) → length mid ≡ 2 * count → AreRight count new) → ((count at : ℕ) → length mid ≡ 2 * count → count ≤ at → node_at new at ≡ node_at mid at) → Put (set seats var seat) new
put_kept seats tree mid new var place seat now few size leaves known place_is now_is mid_is new_size right kept =
    let is : mid ≡ set tree (length seats + var) (leaf seat var) = mid_is ∙ ap₂ (set tree) place_is now_is in
    let long : length mid ≡ length tree = ap (λ (t : List (Option Ranked)). length t) is ∙ length-set tree (length seats + var) (leaf seat var) in
    let same : length (set seats var seat) ≡ length seats = length-set seats var seat in
    record {
      few = omega arith;
      size = omega arith;
      right = subst (λ n. AreRight n new) (sym same) (right (length seats) (long ∙ size));
      leaves = subst (λ n. AreLeaves (set seats var seat) n new) (sym same)
          (leaves_set seats tree new var seat size known leaves (λ count at e l. kept count at (ap (λ (t : List (Option Ranked)). length t) is ∙ e) l ∙ ap (λ (t : List (Option Ranked)). node_at t at) is));
    }

-- all but the node above a leaf are right after it changed
pub put_right : (seats : List Seat) (tree mid : List (Option Ranked)) (var place : ℕ) (now : Option Ranked) → length tree ≡ 2 * length seats → AreRight (length seats) tree → var < length seats → place ≡ length seats + var → mid ≡ set tree place now
    → (length mid ≡ 2 * length seats) × ((place / 2 < length seats) × AreRightBut (place / 2) (length seats) mid)
put_right seats tree mid var place now size right known place_is mid_is = (
  ap (λ (t : List (Option Ranked)). length t) mid_is ∙ (length-set tree place now ∙ size),
  (omega arith, subst (AreRightBut (place / 2) (length seats)) (sym mid_is) (leaf_set tree (length seats) place now (omega arith) right)),
)

-- a whole slice that was lent and comes back
pub whole : (new mid : List (Option Ranked)) (n : ℕ) → length new ≡ length mid → n ≡ length mid → take n (new ++ drop (length new) mid) ≡ new
whole new mid n size is =
    let none : drop (length new) mid ≡ [] = drop_all (length new) mid (omega arith) in
    let joined : new ++ drop (length new) mid ≡ new = ap (λ (xs : List (Option Ranked)). new ++ xs) none ∙ append-nil new in
    ap (take n) joined ∙ take_all n new (omega arith)
