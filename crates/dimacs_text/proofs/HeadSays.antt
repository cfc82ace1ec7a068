-- What a line says as a head.
use Rattle.std.proofs.Common.{◌≡◌, ◌∙◌, ◌<◌, ◌≤◌, ◌+◌, ◌-◌, ℕ, Bool, true, false, zero, suc, refl, sym, ap, ap₂, subst, arith, take, drop, List, [], ◌∷◌, ◌++◌, length, get_or, inl, inr, zero-add, Option, Some, None}
use Rattle.rsfq_ids.specs.declared.limits.TheConstants.{FORMULA_LIMIT}
use Rattle.std.specs.Prelude.{◌==◌, codes, option_map}
use Rattle.std.specs.Option.{option_and_then}
use Rattle.std.specs.Str.{bytes_eq}
use Rattle.dimacs_text.specs.Parts.{front, is_space}
use Rattle.decimal_text.specs.Number.{number_up_to}
use Rattle.dimacs_text.specs.Reading.{count_of, sizes_of, head_of}
use Rattle.dimacs_text.specs.declared.head.Head.{Head}
use Rattle.dimacs_text.proofs.PartLemmas.{take_front, split_at, drop_out}

abbrev pub as_head : ℕ → ℕ → Head
as_head vars clauses = record { vars = vars; clauses = clauses }

abbrev counted : List ℕ → ℕ → Option Head
counted bytes vars = option_map (as_head vars) (count_of (drop (length (front is_space bytes)) bytes))

pub no_vars : (bytes : List ℕ) (space : ℕ) → space ≡ 0 + length (front is_space bytes) → None ≡ number_up_to FORMULA_LIMIT (take space bytes) → sizes_of bytes ≡ None
no_vars bytes space is none =
    let size : length (front is_space bytes) ≡ space = omega arith in
    let same : front is_space bytes ≡ take space bytes = sym (take_front is_space bytes) ∙ ap (λ n. take n bytes) size in
    ap (option_and_then (counted bytes)) (ap (number_up_to FORMULA_LIMIT) same ∙ sym none)

sized_as : (bytes : List ℕ) (space vars : ℕ) → space ≡ 0 + length (front is_space bytes) → Some vars ≡ number_up_to FORMULA_LIMIT (take space bytes)
    → sizes_of bytes ≡ option_map (as_head vars) (count_of (drop space bytes))
sized_as bytes space vars is some =
    let size : length (front is_space bytes) ≡ space = omega arith in
    let same : front is_space bytes ≡ take space bytes = sym (take_front is_space bytes) ∙ ap (λ n. take n bytes) size in
    ap (option_and_then (counted bytes)) (ap (number_up_to FORMULA_LIMIT) same ∙ sym some)
    ∙ ap (λ n. option_map (as_head vars) (count_of (drop n bytes))) size

pub no_space : (bytes : List ℕ) (space vars : ℕ) → space ≡ 0 + length (front is_space bytes) → Some vars ≡ number_up_to FORMULA_LIMIT (take space bytes)
    → space ≡ length bytes → sizes_of bytes ≡ None
no_space bytes space vars is some end =
    sized_as bytes space vars is some
    ∙ ap (λ (bs : List ℕ). option_map (as_head vars) (count_of bs)) (drop_out bytes space (omega arith))

counted_as : (bytes : List ℕ) (space vars : ℕ) → space < length bytes
    → option_map (as_head vars) (count_of (drop space bytes))
    ≡ option_map (as_head vars) (number_up_to FORMULA_LIMIT (drop (space + 1) bytes))
counted_as bytes space vars lt = ap (λ (bs : List ℕ). option_map (as_head vars) (count_of bs)) (split_at bytes space lt)

pub no_count : (bytes : List ℕ) (space vars : ℕ) → space ≡ 0 + length (front is_space bytes) → Some vars ≡ number_up_to FORMULA_LIMIT (take space bytes)
    → space < length bytes → None ≡ number_up_to FORMULA_LIMIT (drop (space + 1) bytes) → sizes_of bytes ≡ None
no_count bytes space vars is some lt none =
    sized_as bytes space vars is some ∙ counted_as bytes space vars lt ∙ ap (option_map (as_head vars)) (sym none)

pub both_counts : (bytes : List ℕ) (space vars clauses : ℕ) → space ≡ 0 + length (front is_space bytes) → Some vars ≡ number_up_to FORMULA_LIMIT (take space bytes)
    → space < length bytes → Some clauses ≡ number_up_to FORMULA_LIMIT (drop (space + 1) bytes) → sizes_of bytes ≡ Some (record { vars = vars; clauses = clauses })
both_counts bytes space vars clauses is some lt also =
    sized_as bytes space vars is some ∙ counted_as bytes space vars lt ∙ ap (option_map (as_head vars)) (sym also)

pub is_head : (line : List ℕ) → bytes_eq (take 6 line) (codes "p cnf ") ≡ true → head_of line ≡ sizes_of (drop 6 line)
unfolding head_of
is_head line e = rw e refl

pub is_no_head : (line : List ℕ) → bytes_eq (take 6 line) (codes "p cnf ") ≡ false → head_of line ≡ None
unfolding head_of
is_no_head line e = rw e refl
