-- The width of several operands together.
use Rattle.std.proofs.Common.{◌≡◌, ℕ, ◌+◌, ◌*◌, ◌^◌, ◌<◌, ◌≤◌, List, [], ◌∷◌, ◌++◌, length, take, drop, get_or, sum, refl, sym, ◌∙◌, ap, subst, arith, append-nil, length-append}
use Rattle.std.specs.List.{AllZip}
use Rattle.std.proofs.lemmas.List.{take-append-drop, take_more}
use Rattle.std.proofs.lemmas.List.Sums.{sum_by-append}
use Rattle.std.proofs.lemmas.List.Concat.{flat_map-append}
use Rattle.verilog_tree.specs.declared.tree.Expr as code
use Rattle.verilog_tree.specs.Trees.{Expr}
use Rattle.verilog_tree.specs.Views.{view_expr}
use Rattle.bind_sites.specs.Sites.{Operand, operands, Site}
use Rattle.bind_sites.specs.Scope.{OperandWidth, ExprWidth}
use Rattle.bind_faults.specs.Widths.{HaveWidth, all_operands}

-- ---- two lists along each other

zip_both : {A B : Type 0} (R : A → B → Type 0) (a b : List A) (v w : List B) → AllZip R a v → AllZip R b w → AllZip R (a ++ b) (v ++ w)
zip_both R [] b [] w g h = h
zip_both R [] b (y ∷ v) w g h = absurd g
zip_both R (x ∷ a) b [] w g h = absurd g
zip_both R (x ∷ a) b (y ∷ v) w g h = (g.0, zip_both R a b v w g.1 h)

-- the parts of a second list, along two first ones
record Parted {A B : Type 0} (R : A → B → Type 0) (a b : List A) : Type 0 where
  front : List B
  back : List B
  first : AllZip R a front
  second : AllZip R b back

parted : {A B : Type 0} (R : A → B → Type 0) (a b : List A) (w : List B) → AllZip R (a ++ b) w → Parted R a b
parted R [] b w h = record { front = []; back = w; first = tt; second = h }
parted R (x ∷ a) b [] h = absurd h
parted R (x ∷ a) b (y ∷ w) h = let rest = parted R a b w h.1 in record { front = y ∷ rest.front; back = rest.back; first = (h.0, rest.first); second = rest.second }

-- ---- widths

pub have_none : (all : List Site) → HaveWidth all [] 0
have_none all = ([], tt, refl)

pub have_both : (all : List Site) (a b : List Operand) (x y : ℕ) → HaveWidth all a x → HaveWidth all b y → HaveWidth all (a ++ b) (x + y)
have_both all a b x y g h =
    let total : x + y ≡ sum (g.0 ++ h.0) = omega (arith, g.2, h.2, sum_by-append (λ n. n) g.0 h.0) in
    (g.0 ++ h.0, zip_both (OperandWidth all) a b g.0 h.0 g.1 h.1, total)

-- a width of all is one of a part
pub first_has : (all : List Site) (a b : List Operand) (w : ℕ) → HaveWidth all (a ++ b) w → (x : ℕ) × HaveWidth all a x
first_has all a b w h =
    let p = parted (OperandWidth all) a b h.0 h.1 in
    (sum p.front, (p.front, p.first, refl))

pub second_has : (all : List Site) (a b : List Operand) (w : ℕ) → HaveWidth all (a ++ b) w → (x : ℕ) × HaveWidth all b x
second_has all a b w h =
    let p = parted (OperandWidth all) a b h.0 h.1 in
    (sum p.back, (p.back, p.second, refl))

pub have_one : (all : List Site) (o : Operand) (w : ℕ) → OperandWidth all o w → HaveWidth all (o ∷ []) w
have_one all o w h = (w ∷ [], (h, tt), omega arith)

pub one_has : (all : List Site) (o : Operand) (w : ℕ) → HaveWidth all (o ∷ []) w → OperandWidth all o w
one_has all o w h = of_widths h.0 h.1 h.2 where
  of_widths : (widths : List ℕ) → AllZip (OperandWidth all) (o ∷ []) widths → w ≡ sum widths → OperandWidth all o w
  of_widths [] z e = absurd z
  of_widths (x ∷ []) z e = let same : x ≡ w = omega arith in subst (λ (n : ℕ). OperandWidth all o n) same z.0
  of_widths (x ∷ y ∷ rest) z e = absurd z.1

pub expr_has : (all : List Site) (expr : Expr) (w : ℕ) → HaveWidth all (operands expr) w → ExprWidth all expr w
expr_has all expr w h = record { widths = h.0; each = h.1; total = h.2 }

pub has_expr : (all : List Site) (expr : Expr) (w : ℕ) → ExprWidth all expr w → HaveWidth all (operands expr) w
has_expr all expr w h = (h.widths, h.each, h.total)

-- ---- several expressions

pub parts_more : (parts : List code.Expr) (at : ℕ) (part : code.Expr) → at < length parts → part ≡ get_or parts at part → all_operands (take (at + 1) parts) ≡ all_operands (take at parts) ++ operands (view_expr part)
parts_more parts at part near is =
    ap all_operands (take_more parts at part near) ∙ flat_map-append (λ (p : code.Expr). operands (view_expr p)) (take at parts) (get_or parts at part ∷ [])
    ∙ ap (λ (l : List Operand). all_operands (take at parts) ++ l) (append-nil (operands (view_expr (get_or parts at part))))
    ∙ ap (λ (p : code.Expr). all_operands (take at parts) ++ operands (view_expr p)) (sym is)

pub parts_split : (parts : List code.Expr) (at : ℕ) → all_operands parts ≡ all_operands (take at parts) ++ all_operands (drop at parts)
parts_split parts at =
    ap all_operands (sym (take-append-drop at parts)) ∙ flat_map-append (λ (p : code.Expr). operands (view_expr p)) (take at parts) (drop at parts)

-- of all the operands of several expressions, those of one
part_has : (all : List Site) (parts : List code.Expr) (at : ℕ) (part : code.Expr) (w : ℕ) → at < length parts → part ≡ get_or parts at part → HaveWidth all (all_operands parts) w → (x : ℕ) × ExprWidth all (view_expr part) x
part_has all parts at part w near is h =
    let front = first_has all (all_operands (take (at + 1) parts)) (all_operands (drop (at + 1) parts)) w (subst (λ (l : List Operand). HaveWidth all l w) (parts_split parts (at + 1)) h) in
    let here = second_has all (all_operands (take at parts)) (operands (view_expr part)) front.0 (subst (λ (l : List Operand). HaveWidth all l front.0) (parts_more parts at part near is) front.1) in
    (here.0, expr_has all (view_expr part) here.0 here.1)

-- the sum over the expressions so far
pub record IsSum (all : List Site) (parts : List code.Expr) (width : ℕ) : Type 0 where
  pub have : HaveWidth all (all_operands parts) width
  pub small : width ≤ 2 ^ 32 * length (all_operands parts)

pub no_parts : (all : List Site) (parts : List code.Expr) → IsSum all (take 0 parts) 0
no_parts all parts = record { have = have_none all; small = omega arith }

pub sum_more : (all : List Site) (parts : List code.Expr) (at : ℕ) (part : code.Expr) (width w : ℕ) → at < length parts → part ≡ get_or parts at part → IsSum all (take at parts) width → ExprWidth all (view_expr part) w
    → w ≤ 2 ^ 32 * length (operands (view_expr part)) → IsSum all (take (at + 1) parts) (width + w)
sum_more all parts at part width w near is before wide small =
    let more = parts_more parts at part near is in
    let front = all_operands (take at parts) in
    let here = operands (view_expr part) in
    let few : width + w ≤ 2 ^ 32 * length (front ++ here) = omega (arith, length-append front here, before.small, small) in
    record {
      have = subst (λ (l : List Operand). HaveWidth all l (width + w)) (sym more) (have_both all front here width w before.have (has_expr all (view_expr part) w wide));
      small = subst (λ (l : List Operand). width + w ≤ 2 ^ 32 * length l) (sym more) few;
    }

pub sum_fits : (all : List Site) (parts : List code.Expr) (at : ℕ) (width : ℕ) → length (all_operands parts) < 2 ^ 32 → IsSum all (take at parts) width → width < 2 ^ 64
sum_fits all parts at width few is =
    let whole : length (all_operands parts) ≡ length (all_operands (take at parts) ++ all_operands (drop at parts)) = ap length (parts_split parts at) in
    omega (arith, whole, length-append (all_operands (take at parts)) (all_operands (drop at parts)), is.small, few)

pub part_few : (parts : List code.Expr) (at : ℕ) (part : code.Expr) → at < length parts → part ≡ get_or parts at part → length (all_operands parts) < 2 ^ 32 → length (operands (view_expr part)) < 2 ^ 32
part_few parts at part near is few =
    let whole : length (all_operands parts) ≡ length (all_operands (take (at + 1) parts) ++ all_operands (drop (at + 1) parts)) = ap length (parts_split parts (at + 1)) in
    let front : length (all_operands (take (at + 1) parts)) ≡ length (all_operands (take at parts) ++ operands (view_expr part)) = ap length (parts_more parts at part near is) in
    omega (arith, whole, front, length-append (all_operands (take (at + 1) parts)) (all_operands (drop (at + 1) parts)), length-append (all_operands (take at parts)) (operands (view_expr part)), few)

-- an expression without a width
pub part_lacks : (all : List Site) (parts : List code.Expr) (at : ℕ) (part : code.Expr) → at < length parts → part ≡ get_or parts at part → ((w : ℕ) → ¬ ExprWidth all (view_expr part) w) → (w : ℕ) → ¬ HaveWidth all (all_operands parts) w
part_lacks all parts at part near is none = λ w has. let here = part_has all parts at part w near is has in none here.0 here.1
