-- Fronts, closings and lines by places of the text.
use Rattle.std.proofs.Common.{◌≡◌, ℕ, zero, suc, ◌+◌, ◌-◌, ◌≤◌, ◌<◌, Bool, true, false, List, [], ◌∷◌, length, Option, Some, None, refl, sym, ap, ◌∙◌, arith, inl, inr, take, drop, get_or, drop-cons, add-one, length-drop, ◌==◌, codes}
use Rattle.std.specs.Prelude.{◌&&◌, option_map, slice_index}
use Rattle.std.specs.List.{prefix_len}
use Rattle.std.proofs.lemmas.Bool.{eqb-true, eq-eqb}
use Rattle.std.proofs.lemmas.List.Sums.{prefix_len_is}
use Rattle.std.proofs.Math.Seq.{take-length}
use Rattle.memchr.specs.Find.{FindsNeedle, IsFirstByte, OccursAt, is_byte}
use Rattle.verilog_lex.specs.Bytes.{begins, is_in_line}
use Rattle.verilog_lex.specs.Scan.{quoted, unquoted, counts, is_close, front, back, close}
use Rattle.verilog_lex.specs.declared.closing.Quoting.{Quoting}
use Rattle.verilog_lex.specs.declared.closing.Quoting.TheVariants.{Outside, Inside, Behind}
use Rattle.verilog_lex.proofs.Tools.{bool_cases, and_left, and_right, or_left, or_right}

pub split_at : (xs : List ℕ) (i : ℕ) → i < length xs → drop i xs ≡ get_or xs i 0 ∷ drop (i + 1) xs
split_at xs i lt = rw (add-one, drop-cons xs i 0) refl

pub drop_out : (xs : List ℕ) (i : ℕ) → length xs ≤ i → drop i xs ≡ []
drop_out [] zero le = refl
drop_out [] (suc i) le = refl
drop_out (x ∷ xs) zero le = absurd (omega arith)
drop_out (x ∷ xs) (suc i) le = drop_out xs i (omega arith)

-- `&text[at..]`, as goals show it
pub rest_is : (text : List ℕ) (at : ℕ) → take (length text - at) (drop at text) ≡ drop at text
rest_is text at =
    let count : length text - at ≡ length (drop at text) = sym (length-drop at text) in
    ap (λ n. take n (drop at text)) count ∙ take-length (drop at text)

-- ---- fronts

pub front_len : (p : ℕ → Bool) (xs : List ℕ) → length (front p xs) ≡ prefix_len p xs
front_len p [] = refl
front_len p (b ∷ bs) = elim (bool_cases (p b)) [ inl e ↦ rw e (let ih = front_len p bs in omega arith) | inr e ↦ rw e refl ]

pub take_front : (p : ℕ → Bool) (xs : List ℕ) → take (length (front p xs)) xs ≡ front p xs
take_front p [] = refl
take_front p (b ∷ bs) = elim (bool_cases (p b)) [ inl e ↦ rw e (ap (λ (l : List ℕ). b ∷ l) (take_front p bs)) | inr e ↦ rw e refl ]

pub drop_front : (p : ℕ → Bool) (xs : List ℕ) → drop (length (front p xs)) xs ≡ back p xs
drop_front p [] = refl
drop_front p (b ∷ bs) = elim (bool_cases (p b)) [ inl e ↦ rw e (drop_front p bs) | inr e ↦ rw e refl ]

-- ---- lines

pub line_found : (xs : List ℕ) (k : ℕ) → IsFirstByte (is_byte 10) xs (Some k) → length (front is_in_line xs) ≡ k
line_found xs k found =
    let high = found.0.high in
    front_len is_in_line xs ∙ prefix_len_is is_in_line xs k 0 (omega arith)
    (λ j lt. elim (bool_cases (get_or xs j 0 == 10)) [ inl e ↦ absurd (found.0.before j (omega arith) lt e) | inr e ↦ rw e refl ])
    (λ lt. let e : (get_or xs k 0 == 10) ≡ true = found.1 in rw e refl)

pub line_open : (xs : List ℕ) → IsFirstByte (is_byte 10) xs None → length (front is_in_line xs) ≡ length xs
line_open xs none =
    front_len is_in_line xs ∙ prefix_len_is is_in_line xs (length xs) 0 (omega arith)
    (λ j lt. elim (bool_cases (get_or xs j 0 == 10)) [ inl e ↦ absurd (none j (omega arith) lt e) | inr e ↦ rw e refl ])
    (λ lt. absurd (omega arith))

-- ---- closings

pub begins_at : (p : ℕ → Bool) (xs : List ℕ) (i : ℕ) → i < length xs → begins p (drop i xs) ≡ p (get_or xs i 0)
begins_at p xs i lt = ap (begins p) (split_at xs i lt)

one_more : (x y : ℕ) (next : Quoting → ℕ → Quoting) (w : Quoting) (b : ℕ) (bs : List ℕ) → is_close x y w b bs ≡ false → close x y next w (b ∷ bs) ≡ option_map suc (close x y next (next w b) bs)
one_more x y next w b bs e = rw e refl

one_found : (x y : ℕ) (next : Quoting → ℕ → Quoting) (w : Quoting) (b : ℕ) (bs : List ℕ) → is_close x y w b bs ≡ true → close x y next w (b ∷ bs) ≡ Some 2
one_found x y next w b bs e = rw e refl

moved : (r : Option ℕ) (i : ℕ) → option_map (λ n. i + n) (option_map suc r) ≡ option_map (λ n. i + 1 + n) r
moved None i = refl
moved (Some n) i = ap Some (let e : i + suc n ≡ i + 1 + n = omega arith in e)

pub close_more : (x y : ℕ) (next : Quoting → ℕ → Quoting) (w : Quoting) (xs : List ℕ) (i : ℕ) → i < length xs → is_close x y w (get_or xs i 0) (drop (i + 1) xs) ≡ false
    → option_map (λ n. i + n) (close x y next w (drop i xs)) ≡ option_map (λ n. i + 1 + n) (close x y next (next w (get_or xs i 0)) (drop (i + 1) xs))
close_more x y next w xs i lt e =
    ap (λ (l : List ℕ). option_map (λ n. i + n) (close x y next w l)) (split_at xs i lt) ∙ (ap (option_map (λ n. i + n)) (one_more x y next w (get_or xs i 0) (drop (i + 1) xs) e) ∙ moved _ i)

-- ---- the needle of two bytes

needle_here : (x y b : ℕ) (bs : List ℕ) → is_close x y Outside b bs ≡ true → OccursAt (b ∷ bs) (x ∷ y ∷ []) 0
needle_here x y b [] e = absurd cc
needle_here x y b (c ∷ cs) e = record {
  fits = omega arith;
  reads = at;
} where
  at : (j : ℕ) → j < 2 → slice_index (b ∷ c ∷ cs) (0 + j) ≡ slice_index (x ∷ y ∷ []) j
  at zero lt = eqb-true b x (and_right (c == y) _ (and_left _ _ e))
  at (suc zero) lt = eqb-true c y (and_left (c == y) _ (and_left _ _ e))
  at (suc (suc j)) lt = absurd (omega arith)

close_at : (x y b : ℕ) (bs : List ℕ) → OccursAt (b ∷ bs) (x ∷ y ∷ []) 0 → is_close x y Outside b bs ≡ true
close_at x y b [] o = let fits = o.fits in absurd (omega arith)
close_at x y b (c ∷ cs) o =
    let first : b ≡ x = o.reads 0 (omega arith) in
    let second : c ≡ y = o.reads 1 (omega arith) in
    rw (eq-eqb c y second) (rw (eq-eqb b x first) refl)

later : (needle : List ℕ) (b : ℕ) (bs : List ℕ) (k : ℕ) → OccursAt bs needle k → OccursAt (b ∷ bs) needle (suc k)
later needle b bs k o = record {
  fits = let fits = o.fits in omega arith;
  reads = λ j lt. let e : suc k + j ≡ suc (k + j) = omega arith in ap (slice_index (b ∷ bs)) e ∙ o.reads j lt;
}

earlier : (needle : List ℕ) (b : ℕ) (bs : List ℕ) (k : ℕ) → OccursAt (b ∷ bs) needle (suc k) → OccursAt bs needle k
earlier needle b bs k o = record {
  fits = let fits = o.fits in omega arith;
  reads = λ j lt. let e : suc k + j ≡ suc (k + j) = omega arith in ap (slice_index (b ∷ bs)) (sym e) ∙ o.reads j lt;
}

nowhere : (x y : ℕ) (xs : List ℕ) → ((k : ℕ) → ¬ OccursAt xs (x ∷ y ∷ []) k) → close x y unquoted Outside xs ≡ None
nowhere x y [] none = refl
nowhere x y (b ∷ bs) none = elim (bool_cases (is_close x y Outside b bs)) [
  | inl e ↦ absurd (none 0 (needle_here x y b bs e))
  | inr e ↦ one_more x y unquoted Outside b bs e ∙ ap (option_map suc) (nowhere x y bs (λ k o. none (suc k) (later _ b bs k o)))
]

at_first : (x y : ℕ) (xs : List ℕ) (k : ℕ) → OccursAt xs (x ∷ y ∷ []) k → ((j : ℕ) → j < k → ¬ OccursAt xs (x ∷ y ∷ []) j) → close x y unquoted Outside xs ≡ Some (suc (suc k))
at_first x y [] k o none = let fits = o.fits in absurd (omega arith)
at_first x y (b ∷ bs) zero o none = one_found x y unquoted Outside b bs (close_at x y b bs o)
at_first x y (b ∷ bs) (suc k) o none = elim (bool_cases (is_close x y Outside b bs)) [
  | inl e ↦ absurd (none 0 (omega arith) (needle_here x y b bs e))
  | inr e ↦ one_more x y unquoted Outside b bs e ∙ ap (option_map suc) (at_first x y bs k (earlier _ b bs k o) (λ j lt q. none (suc j) (omega arith) (later _ b bs j q)))
]

pub needle_close : (xs : List ℕ) (k : ℕ) → FindsNeedle xs (codes "*/") 0 (Some k) → close 42 47 unquoted Outside xs ≡ Some (suc (suc k))
needle_close xs k found = at_first 42 47 xs k found.1 (λ j lt. found.0.before j (omega arith) lt)

pub needle_open : (xs : List ℕ) → FindsNeedle xs (codes "*/") 0 None → close 42 47 unquoted Outside xs ≡ None
needle_open xs none = nowhere 42 47 xs (λ k o. none k (omega arith) (let fits = o.fits in omega arith) o)

pub line_rest : (text : List ℕ) (at : ℕ) → at ≤ length text → IsFirstByte (is_byte 10) (drop at text) None → length text ≡ at + length (front is_in_line (drop at text))
line_rest text at le none =
    let e : length (front is_in_line (drop at text)) ≡ length (drop at text) = line_open (drop at text) none in
    omega (arith, length-drop at text)

pub comment_some : (text : List ℕ) (at k : ℕ) → FindsNeedle (drop at text) (codes "*/") 0 (Some k) → Some (at + k + 2) ≡ option_map (λ n. at + n) (close 42 47 unquoted Outside (drop at text))
comment_some text at k found =
    let e : at + k + 2 ≡ at + suc (suc k) = omega arith in
    ap Some e ∙ ap (option_map (λ n. at + n)) (sym (needle_close (drop at text) k found))

pub comment_none : (text : List ℕ) (at : ℕ) → FindsNeedle (drop at text) (codes "*/") 0 None → None ≡ option_map (λ n. at + n) (close 42 47 unquoted Outside (drop at text))
comment_none text at none = ap (option_map (λ n. at + n)) (sym (needle_open (drop at text) none))

pub goes_on : (text : List ℕ) (i : ℕ) (w v : Quoting) → i < length text → is_close 42 41 w (get_or text i 0) (drop (i + 1) text) ≡ false → v ≡ quoted w (get_or text i 0)
    → option_map (λ n. i + n) (close 42 41 quoted w (drop i text)) ≡ option_map (λ n. i + 1 + n) (close 42 41 quoted v (drop (i + 1) text))
goes_on text i w v lt e q =
    close_more 42 41 quoted w text i lt e ∙ ap (λ (u : Quoting). option_map (λ n. i + 1 + n) (close 42 41 quoted u (drop (i + 1) text))) (sym q)

-- ---- bytes of an attribute that do not count

outer_false : (a b : Bool) → b ≡ false → (a && b && true) ≡ false
outer_false true true e = absurd cc
outer_false true false e = refl
outer_false false b e = refl

inner_false : (a b : Bool) → (a && b && false) ≡ false
inner_false true true = refl
inner_false true false = refl
inner_false false b = refl

uncounted_closes : (w : Quoting) (b : ℕ) (bs : List ℕ) → counts w b ≡ false → is_close 42 41 w b bs ≡ false
uncounted_closes Outside b bs e = outer_false (begins (λ c. c == 41) bs) (b == 42) (or_left (b == 42) _ e)
uncounted_closes Inside b bs e = inner_false (begins (λ c. c == 41) bs) (b == 42)
uncounted_closes Behind b bs e = absurd cc

uncounted_stays : (w : Quoting) (b : ℕ) → counts w b ≡ false → quoted w b ≡ w
uncounted_stays Outside b e = let no : (b == 34) ≡ false = or_right (b == 42) _ e in rw no refl
uncounted_stays Inside b e =
    let no : (b == 34) ≡ false = or_left (b == 34) _ e in
    let other : (b == 92) ≡ false = or_right (b == 34) _ e in
    rw (no, other) refl
uncounted_stays Behind b e = absurd cc

-- where a byte of the attribute counts, or its end, so many bytes behind: the closing is the one that is found from there
pub passes : (w : Quoting) (text : List ℕ) (from k : ℕ) → from + k ≤ length text → ((j : ℕ) → j < k → counts w (get_or (drop from text) j 0) ≡ false)
    → option_map (λ n. from + n) (close 42 41 quoted w (drop from text)) ≡ option_map (λ n. from + k + n) (close 42 41 quoted w (drop (from + k) text))
passes w text from zero le none = let e : from ≡ from + 0 = omega arith in ap (λ (i : ℕ). option_map (λ n. i + n) (close 42 41 quoted w (drop i text))) e
passes w text from (suc k) le none =
    let lt : from < length text = omega arith in
    let here : get_or (drop from text) 0 0 ≡ get_or text from 0 = ap (λ (l : List ℕ). get_or l 0 0) (split_at text from lt) in
    let first : counts w (get_or text from 0) ≡ false = ap (counts w) (sym here) ∙ none 0 (omega arith) in
    let later : (j : ℕ) → j < k → counts w (get_or (drop (from + 1) text) j 0) ≡ false = λ j l. ap (counts w) (ap (λ (t : List ℕ). get_or t (suc j) 0) (sym (split_at text from lt))) ∙ none (suc j) (omega arith) in
    let more = goes_on text from w w lt (uncounted_closes w _ (drop (from + 1) text) first) (sym (uncounted_stays w _ first)) in
    let sum : from + 1 + k ≡ from + suc k = omega arith in
    more ∙ (passes w text (from + 1) k (omega arith) later ∙ ap (λ (i : ℕ). option_map (λ n. i + n) (close 42 41 quoted w (drop i text))) sum)

uncounted : (w : Quoting) (xs : List ℕ) (j : ℕ) → ¬ (counts w (get_or xs j 0) ≡ true) → counts w (get_or xs j 0) ≡ false
uncounted w xs j h = elim (bool_cases (counts w (get_or xs j 0))) [ inl e ↦ absurd (h e) | inr e ↦ e ]

-- what stands from `at` on closes where what stands from `from` on does
abbrev pub ClosesAs : List ℕ → ℕ → ℕ → Quoting → Type 0
ClosesAs text at from w = option_map (λ n. at + n) (close 42 41 quoted Outside (drop at text)) ≡ option_map (λ n. from + n) (close 42 41 quoted w (drop from text))

counted : (w : Quoting) (text : List ℕ) (at from k : ℕ) → ClosesAs text at from w → IsFirstByte (counts w) (drop from text) (Some k) → (from + k < length text) × ClosesAs text at (from + k) w
counted w text at from k same found =
    let high = found.0.high in
    let lt : from + k < length text = omega (arith, length-drop from text) in
    (lt, same ∙ passes w text from k (omega arith) (λ j l. uncounted w (drop from text) j (found.0.before j (omega arith) l)))

pub attribute_goes_on : (w v : Quoting) (text : List ℕ) (at from k : ℕ) → ClosesAs text at from w → IsFirstByte (counts w) (drop from text) (Some k)
    → is_close 42 41 w (get_or text (from + k) 0) (drop (from + k + 1) text) ≡ false → v ≡ quoted w (get_or text (from + k) 0) → (from + k + 1 ≤ length text) × ClosesAs text at (from + k + 1) v
attribute_goes_on w v text at from k same found e q =
    let there = counted w text at from k same found in
    (let lt = there.0 in omega arith, there.1 ∙ goes_on text (from + k) w v there.0 e q)

pub attribute_closes : (w : Quoting) (text : List ℕ) (at from k : ℕ) → ClosesAs text at from w → IsFirstByte (counts w) (drop from text) (Some k)
    → is_close 42 41 w (get_or text (from + k) 0) (drop (from + k + 1) text) ≡ true → Some (from + k + 2) ≡ option_map (λ n. at + n) (close 42 41 quoted Outside (drop at text))
attribute_closes w text at from k same found e =
    let there = counted w text at from k same found in
    let here : close 42 41 quoted w (drop (from + k) text) ≡ Some 2 = ap (close 42 41 quoted w) (split_at text (from + k) there.0) ∙ one_found 42 41 quoted w _ (drop (from + k + 1) text) e in
    sym (there.1 ∙ ap (option_map (λ n. from + k + n)) here)

pub attribute_open : (w : Quoting) (text : List ℕ) (at from : ℕ) → from ≤ length text → ClosesAs text at from w → IsFirstByte (counts w) (drop from text) None
    → None ≡ option_map (λ n. at + n) (close 42 41 quoted Outside (drop at text))
attribute_open w text at from le same none =
    let k : ℕ = length text - from in
    let all : from + k ≡ length text = omega arith in
    let out : drop (from + k) text ≡ [] = drop_out text (from + k) (omega arith) in
    sym (same ∙ (passes w text from k (omega arith) (λ j l. uncounted w (drop from text) j (none j (omega arith) (omega (arith, length-drop from text)))) ∙ ap (λ (l : List ℕ). option_map (λ n. from + k + n) (close 42 41 quoted w l)) out))
