-- The text of a formula says the formula.
use Rattle.std.proofs.Common.{◌≡◌, ◌∙◌, ◌<◌, ◌≤◌, ◌+◌, ◌*◌, ℕ, Bool, true, false, zero, suc, refl, sym, ap, subst, arith, drop, List, [], ◌∷◌, ◌++◌, length, get_or, Some, Result, Ok, decimal, append_assoc, append-nil, length-append, eq-eqb}
use Rattle.rsfq_ids.specs.declared.limits.TheConstants.{FORMULA_LIMIT}
use Rattle.std.specs.Prelude.{◌==◌, ◌≢◌, option_map}
use Rattle.std.specs.List.{All, AllPairs, list_any, flat_map}
use Rattle.std.specs.Option.{option_and_then}
use Rattle.std.proofs.lemmas.List.Elements.{All-head, All-tail}
use Rattle.std.proofs.lemmas.List.Folds.{list_any-append}
use Rattle.rsfq_ids.specs.Formula.{Clause, IsOver, IsFormula}
use Rattle.rsfq_ids.specs.declared.circuit.Cnf.{Cnf}
use Rattle.dimacs_text.specs.Parts.{Part, front, words, lines, is_newline, is_blank, is_space}
use Rattle.decimal_text.specs.Number.{number_up_to}
use Rattle.dimacs_text.specs.Number.{signed_of, literal_of}
use Rattle.dimacs_text.specs.Text.{literal_text, spaced_literal, clause_line, dimacs_of}
use Rattle.dimacs_text.specs.Reading.{Said, with_literals, once, after_word, after_words, after_line, after_lines, unless_fault, at_end, count_of, sizes_of, head_of, is_comment, without_comments, from_head, with_head, reading}
use Rattle.dimacs_text.specs.declared.head.Head.{Head}
use Rattle.dimacs_text.specs.declared.fault.TextFault.{TextFault}
use Rattle.dimacs_text.proofs.WordSays.{says_zero, says_literal}
use Rattle.dimacs_text.proofs.HeadSays.{as_head, is_head}
use Rattle.dimacs_text.proofs.Written.{Separates, newlines, blanks, spaces, apart, or_left, or_right, part_first, word_first, literal_free, literal_some, literals_free, small_literals, signed_literal, literal_back, signed_read, decimal_free, number_read, regroup}

-- ---- literals of a clause

clause_words : (vars : ℕ) (closed : List Clause) (pending : Clause) (at : ℕ) (clause : Clause) → vars ≤ FORMULA_LIMIT → IsOver vars clause
    → after_words vars (record { closed = closed; pending = pending }) (words is_blank at (flat_map spaced_literal clause ++ 48 ∷ []))
    ≡ Ok (record { closed = closed ++ once (pending ++ clause) ∷ []; pending = [] })
clause_words vars closed pending at [] small over =
    let said : Said = record { closed = closed; pending = pending } in
    let zero_is : Some (record { negative = false; size = 0 }) ≡ signed_of (48 ∷ []) = refl in
    ap (unless_fault (λ (n : Said). after_words vars n [])) (says_zero vars said at (48 ∷ []) (record { negative = false; size = 0 }) zero_is refl)
    ∙ ap (λ (c : Clause). let r : Result Said TextFault = Ok (record { closed = closed ++ once c ∷ []; pending = [] }) in r) (sym (append-nil pending))
clause_words vars closed pending at (lit ∷ lits) small over =
    let lt : lit < 2 * vars = All-head (λ l. l < 2 * vars) lit lits over in
    let split : words is_blank at (flat_map spaced_literal (lit ∷ lits) ++ 48 ∷ []) ≡ record { start = at; bytes = literal_text lit } ∷ words is_blank (at + suc (length (literal_text lit))) (flat_map spaced_literal lits ++ 48 ∷ []) =
    ap (words is_blank at) (regroup (literal_text lit) (flat_map spaced_literal lits) (48 ∷ []))
    ∙ word_first is_blank at (literal_text lit) 32 (flat_map spaced_literal lits ++ 48 ∷ []) (literal_some lit (omega arith)) (literal_free is_blank blanks lit (omega arith)) refl in
    let said_now : after_word vars (record { closed = closed; pending = pending }) (record { start = at; bytes = literal_text lit }) ≡ Ok (record { closed = closed; pending = pending ++ literal_of (signed_literal lit) ∷ [] }) =
    says_literal vars (record { closed = closed; pending = pending }) at (literal_text lit) (signed_literal lit) (sym (signed_read lit (omega arith))) (λ e. omega arith) (omega arith) in
    ap (after_words vars (record { closed = closed; pending = pending })) split
    ∙ ap (unless_fault (λ (n : Said). after_words vars n (words is_blank (at + suc (length (literal_text lit))) (flat_map spaced_literal lits ++ 48 ∷ [])))) said_now
    ∙ ap (λ l. after_words vars (record { closed = closed; pending = pending ++ l ∷ [] }) (words is_blank (at + suc (length (literal_text lit))) (flat_map spaced_literal lits ++ 48 ∷ []))) (literal_back lit)
    ∙ clause_words vars closed (pending ++ lit ∷ []) (at + suc (length (literal_text lit))) lits small (All-tail (λ l. l < 2 * vars) lit lits over)
    ∙ ap (λ (c : Clause). let r : Result Said TextFault = Ok (record { closed = closed ++ once c ∷ []; pending = [] }) in r) (append_assoc pending (lit ∷ []) lits)

-- ---- literals once

none_is : (lit : ℕ) (clause : Clause) → ((k : ℕ) (d : ℕ) → k < length clause → get_or clause k d ≡ lit → ⊥) → list_any (λ other. lit == other) clause ≡ false
none_is lit [] other = refl
none_is lit (x ∷ clause) other =
    let here : (lit == x) ≡ false = apart lit x (λ e. other 0 0 (omega arith) (sym e)) in
    rw here (none_is lit clause (λ k d lt. other (suc k) d (omega arith)))

here_is : (xs : Clause) (x : ℕ) (ys : Clause) (d : ℕ) → get_or (xs ++ x ∷ ys) (length xs) d ≡ x
here_is [] x ys d = refl
here_is (y ∷ xs) x ys d = here_is xs x ys d

before_is : (xs ys : Clause) (k d : ℕ) → k < length xs → get_or (xs ++ ys) k d ≡ get_or xs k d
before_is [] ys k d lt = absurd (omega arith)
before_is (x ∷ xs) ys zero d lt = refl
before_is (x ∷ xs) ys (suc k) d lt = before_is xs ys k d (omega arith)

all_stay : (clause lits : Clause) → AllPairs (λ one other. one ≢ other) (clause ++ lits) → with_literals clause lits ≡ clause ++ lits
all_stay clause [] pairs = sym (append-nil clause)
all_stay clause (lit ∷ lits) pairs =
    let size : length (clause ++ lit ∷ lits) ≡ length clause + length (lit ∷ lits) = length-append clause (lit ∷ lits) in
    let none : list_any (λ other. lit == other) clause ≡ false =
    none_is lit clause (λ k d lt e. pairs k (length clause) d lt (omega arith) (before_is clause (lit ∷ lits) k d lt ∙ e ∙ sym (here_is clause lit lits d))) in
    let again : (clause ++ lit ∷ []) ++ lits ≡ clause ++ lit ∷ lits = append_assoc clause (lit ∷ []) lits in
    rw none (all_stay (clause ++ lit ∷ []) lits (subst (AllPairs (λ (one other : ℕ). one ≢ other)) (sym again) pairs) ∙ again)

-- ---- lines

free_line : (p : ℕ → Bool) → Separates p → p 32 ≡ false → (vars : ℕ) (clause : Clause) → vars ≤ FORMULA_LIMIT → IsOver vars clause → list_any p (flat_map spaced_literal clause ++ 48 ∷ []) ≡ false
free_line p apart space vars clause small over =
    let zero_free : p 48 ≡ false = apart.digit 48 (omega arith) (omega arith) in
    rw (list_any-append p (flat_map spaced_literal clause) (48 ∷ []), literals_free p apart space clause (small_literals vars clause (omega arith) over), zero_free) refl

letters : Separates (λ b. b == 99)
letters = record { digit = λ b low high. apart b 99 (λ e. omega arith); hyphen = refl }

pub no_comment : (bytes : List ℕ) → list_any (λ b. b == 99) bytes ≡ false → is_comment bytes ≡ false
no_comment [] free = refl
no_comment (b ∷ bytes) free = or_left (b == 99) (list_any (λ x. x == 99) bytes) free

stays : (vars : ℕ) (closed : List Clause) (line : Part) → is_comment line.bytes ≡ false
    → after_line vars (record { closed = closed; pending = [] }) line ≡ after_words vars (record { closed = closed; pending = [] }) (words is_blank line.start line.bytes)
stays vars closed line other = rw other refl

clause_lines : (vars : ℕ) (closed : List Clause) (at : ℕ) (clauses : List Clause) → vars ≤ FORMULA_LIMIT → All (IsOver vars) clauses → All (λ clause. AllPairs (λ one other. one ≢ other) clause) clauses
    → after_lines vars (record { closed = closed; pending = [] }) (lines at (flat_map clause_line clauses)) ≡ Ok (record { closed = closed ++ clauses; pending = [] })
clause_lines vars closed at [] small over pairs = ap (λ (c : List Clause). let r : Result Said TextFault = Ok (record { closed = c; pending = [] }) in r) (sym (append-nil closed))
clause_lines vars closed at (clause ∷ clauses) small over pairs =
    let here : IsOver vars clause = All-head (IsOver vars) clause clauses over in
    let distinct : AllPairs (λ one other. one ≢ other) clause = All-head (λ (c : Clause). AllPairs (λ one other. one ≢ other) c) clause clauses pairs in
    let shape : flat_map clause_line (clause ∷ clauses) ≡ (flat_map spaced_literal clause ++ 48 ∷ []) ++ 10 ∷ flat_map clause_line clauses = simp append_assoc in
    let split : lines at (flat_map clause_line (clause ∷ clauses)) ≡ record { start = at; bytes = flat_map spaced_literal clause ++ 48 ∷ [] } ∷ lines (at + suc (length (flat_map spaced_literal clause ++ 48 ∷ []))) (flat_map clause_line clauses) =
    ap (lines at) shape ∙ part_first is_newline at (flat_map spaced_literal clause ++ 48 ∷ []) 10 (flat_map clause_line clauses) (free_line is_newline newlines refl vars clause small here) refl in
    let said : after_line vars (record { closed = closed; pending = [] }) (record { start = at; bytes = flat_map spaced_literal clause ++ 48 ∷ [] }) ≡ Ok (record { closed = closed ++ clause ∷ []; pending = [] }) =
    stays vars closed (record { start = at; bytes = flat_map spaced_literal clause ++ 48 ∷ [] }) (no_comment (flat_map spaced_literal clause ++ 48 ∷ []) (free_line (λ b. b == 99) letters refl vars clause small here))
    ∙ clause_words vars closed [] at clause small here
    ∙ ap (λ (c : Clause). let r : Result Said TextFault = Ok (record { closed = closed ++ c ∷ []; pending = [] }) in r) (all_stay [] clause distinct) in
    ap (after_lines vars (record { closed = closed; pending = [] })) split
    ∙ ap (unless_fault (λ (n : Said). after_lines vars n (lines (at + suc (length (flat_map spaced_literal clause ++ 48 ∷ []))) (flat_map clause_line clauses)))) said
    ∙ clause_lines vars (closed ++ clause ∷ []) (at + suc (length (flat_map spaced_literal clause ++ 48 ∷ []))) clauses small (All-tail (IsOver vars) clause clauses over)
    (All-tail (λ (c : Clause). AllPairs (λ one other. one ≢ other) c) clause clauses pairs)
    ∙ ap (λ (c : List Clause). let r : Result Said TextFault = Ok (record { closed = c; pending = [] }) in r) (append_assoc closed (clause ∷ []) clauses)

-- ---- the head

pub front_is : (p : ℕ → Bool) (xs : List ℕ) (b : ℕ) (rest : List ℕ) → list_any p xs ≡ false → p b ≡ true → front p (xs ++ b ∷ rest) ≡ xs
front_is p [] b rest free ends = rw ends refl
front_is p (x ∷ xs) b rest free ends =
    let here : p x ≡ false = or_left (p x) (list_any p xs) free in
    rw here (ap (λ (l : List ℕ). x ∷ l) (front_is p xs b rest (or_right (p x) (list_any p xs) free) ends))

pub rest_of : (xs ys : List ℕ) → drop (length xs) (xs ++ ys) ≡ ys
rest_of [] ys = refl
rest_of (x ∷ xs) ys = rest_of xs ys

abbrev head_words : ℕ → ℕ → List ℕ
head_words vars clauses = 112 ∷ 32 ∷ 99 ∷ 110 ∷ 102 ∷ 32 ∷ (decimal vars ++ 32 ∷ decimal clauses)

sizes_read : (vars clauses : ℕ) → vars ≤ FORMULA_LIMIT → clauses ≤ FORMULA_LIMIT → sizes_of (decimal vars ++ 32 ∷ decimal clauses) ≡ Some (record { vars = vars; clauses = clauses })
sizes_read vars clauses small few =
    let first : front is_space (decimal vars ++ 32 ∷ decimal clauses) ≡ decimal vars = front_is is_space (decimal vars) 32 (decimal clauses) (decimal_free is_space spaces vars (omega arith)) refl in
    let behind : drop (length (decimal vars)) (decimal vars ++ 32 ∷ decimal clauses) ≡ 32 ∷ decimal clauses = rest_of (decimal vars) (32 ∷ decimal clauses) in
    let one : number_up_to FORMULA_LIMIT (decimal vars) ≡ Some vars = number_read FORMULA_LIMIT vars small (omega arith) in
    let two : number_up_to FORMULA_LIMIT (decimal clauses) ≡ Some clauses = number_read FORMULA_LIMIT clauses few (omega arith) in
    ap (λ (f : List ℕ). option_and_then (λ (v : ℕ). option_map (as_head v) (count_of (drop (length f) (decimal vars ++ 32 ∷ decimal clauses)))) (number_up_to FORMULA_LIMIT f)) first
    ∙ ap (λ (r : List ℕ). option_and_then (λ (v : ℕ). option_map (as_head v) (count_of r)) (number_up_to FORMULA_LIMIT (decimal vars))) behind
    ∙ ap (option_and_then (λ (v : ℕ). option_map (as_head v) (number_up_to FORMULA_LIMIT (decimal clauses)))) one
    ∙ ap (option_map (as_head vars)) two

free_head : (vars clauses : ℕ) → vars ≤ FORMULA_LIMIT → clauses ≤ FORMULA_LIMIT → list_any is_newline (head_words vars clauses) ≡ false
free_head vars clauses small few =
    let one = decimal_free is_newline newlines vars (omega arith) in
    let two = decimal_free is_newline newlines clauses (omega arith) in
    rw (list_any-append is_newline (decimal vars) (32 ∷ decimal clauses), one, two) refl

ended : (len : ℕ) (head : Head) (clauses : List Clause) → length clauses ≡ head.clauses → at_end len head (record { closed = clauses; pending = [] }) ≡ Ok (record { vars = head.vars; clauses = clauses })
ended len head clauses is = rw (eq-eqb (length clauses) head.clauses is) refl

pub formula_read : (cnf : Cnf) → IsFormula cnf → reading (dimacs_of cnf) ≡ Ok cnf
formula_read cnf formula =
    let small : cnf.vars ≤ FORMULA_LIMIT = formula.vars in
    let few : length cnf.clauses ≤ FORMULA_LIMIT = formula.count in
    let shape : dimacs_of cnf ≡ head_words cnf.vars (length cnf.clauses) ++ 10 ∷ flat_map clause_line cnf.clauses = simp append_assoc in
    let split : lines 0 (dimacs_of cnf) ≡ record { start = 0; bytes = head_words cnf.vars (length cnf.clauses) } ∷ lines (0 + suc (length (head_words cnf.vars (length cnf.clauses)))) (flat_map clause_line cnf.clauses) =
    ap (lines 0) shape ∙ part_first is_newline 0 (head_words cnf.vars (length cnf.clauses)) 10 (flat_map clause_line cnf.clauses) (free_head cnf.vars (length cnf.clauses) small few) refl in
    let says : head_of (head_words cnf.vars (length cnf.clauses)) ≡ Some (record { vars = cnf.vars; clauses = length cnf.clauses }) =
    is_head (head_words cnf.vars (length cnf.clauses)) refl ∙ sizes_read cnf.vars (length cnf.clauses) small few in
    ap (λ (ls : List Part). from_head (length (dimacs_of cnf)) (without_comments ls)) split
    ∙ ap (with_head (length (dimacs_of cnf)) 0 (lines (0 + suc (length (head_words cnf.vars (length cnf.clauses)))) (flat_map clause_line cnf.clauses))) says
    ∙ ap (unless_fault (at_end (length (dimacs_of cnf)) (record { vars = cnf.vars; clauses = length cnf.clauses })))
    (clause_lines cnf.vars [] (0 + suc (length (head_words cnf.vars (length cnf.clauses)))) cnf.clauses small formula.lits formula.once)
    ∙ ended (length (dimacs_of cnf)) (record { vars = cnf.vars; clauses = length cnf.clauses }) cnf.clauses refl
