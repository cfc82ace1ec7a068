-- What is read is a well-formed formula.
use Rattle.std.proofs.Common.{◌≡◌, ◌<◌, ◌≤◌, ◌*◌, ℕ, Bool, true, false, zero, suc, refl, sym, subst, arith, List, [], ◌∷◌, length, get_or, inl, inr, Option, Some, None, Result, Ok, Err}
use Rattle.rsfq_ids.specs.declared.limits.TheConstants.{FORMULA_LIMIT}
use Rattle.std.specs.Prelude.{◌==◌, ◌&&◌, ◌||◌, not, ◌≢◌, cond}
use Rattle.std.specs.List.{All, AllPairs, list_any}
use Rattle.std.proofs.lemmas.Bool.{cases_Bool, eq-eqb}
use Rattle.std.proofs.lemmas.Bool.Decides.{leb_tells, eqb_tells}
use Rattle.std.proofs.lemmas.List.Elements.{All-nil, All-push, All-head, All-tail}
use Rattle.std.proofs.lemmas.List.Quantifiers.{all_pairs_push}
use Rattle.rsfq_ids.specs.Formula.{Clause, IsOver, IsFormula}
use Rattle.rsfq_ids.specs.declared.circuit.Cnf.{Cnf}
use Rattle.dimacs_text.specs.Parts.{Part, words, is_empty, is_blank}
use Rattle.dimacs_text.specs.Number.{signed_of, literal_of}
use Rattle.dimacs_text.specs.Reading.{Said, with_literal, with_literals, once, after_number, after_word, after_words, after_line, after_lines, unless_fault, at_end, nothing_said, after_head, is_comment}
use Rattle.dimacs_text.specs.declared.number.Signed.{Signed}
use Rattle.dimacs_text.specs.declared.head.Head.{Head}
use Rattle.dimacs_text.specs.declared.fault.TextFault.{TextFault}
use Rattle.dimacs_text.proofs.Cases.{no_ok, same_ok}

abbrev IsOnce : Clause → Type 0
IsOnce clause = AllPairs (λ one other. one ≢ other) clause

-- what was read so far is over the variables, and no closed clause holds a literal twice
pub record IsFormed (vars : ℕ) (said : Said) : Type 0 where
  pub lits : All (IsOver vars) said.closed
  pub once : All IsOnce said.closed
  pub pending : IsOver vars said.pending

not_in : (lit : ℕ) (clause : Clause) → list_any (λ other. lit == other) clause ≡ false → (k : ℕ) (d : ℕ) → k < length clause → get_or clause k d ≢ lit
not_in lit [] none k d lt is = absurd (omega arith)
not_in lit (x ∷ clause) none zero d lt is = let e : (lit == x) ≡ true = eq-eqb lit x (sym is) in absurd (let n : true || list_any (λ other. lit == other) clause ≡ false = rw e at none in cc)
not_in lit (x ∷ clause) none (suc k) d lt is = elim (cases_Bool (lit == x)) [
  | inl e ↦ absurd (let n : true || list_any (λ other. lit == other) clause ≡ false = rw e at none in cc)
  | inr e ↦ let n : false || list_any (λ other. lit == other) clause ≡ false = rw e at none in not_in lit clause n k d (omega arith) is
]

once_more : (clause : Clause) (lit : ℕ) → IsOnce clause → IsOnce (with_literal clause lit)
once_more clause lit all = elim (cases_Bool (list_any (λ other. lit == other) clause)) [
  | inl e ↦ rw e all
  | inr e ↦ rw e (all_pairs_push (λ one other. one ≢ other) clause lit all (not_in lit clause e))
]

over_more : (vars : ℕ) (clause : Clause) (lit : ℕ) → IsOver vars clause → lit < 2 * vars → IsOver vars (with_literal clause lit)
over_more vars clause lit all lt = elim (cases_Bool (list_any (λ other. lit == other) clause)) [
  | inl e ↦ rw e all
  | inr e ↦ rw e (All-push (λ l. l < 2 * vars) clause lit all lt)
]

all_once : (clause lits : Clause) → IsOnce clause → IsOnce (with_literals clause lits)
all_once clause [] all = all
all_once clause (lit ∷ lits) all = all_once (with_literal clause lit) lits (once_more clause lit all)

all_over : (vars : ℕ) (clause lits : Clause) → IsOver vars clause → IsOver vars lits → IsOver vars (with_literals clause lits)
all_over vars clause [] all more = all
all_over vars clause (lit ∷ lits) all more =
    all_over vars (with_literal clause lit) lits (over_more vars clause lit all (All-head (λ l. l < 2 * vars) lit lits more)) (All-tail (λ l. l < 2 * vars) lit lits more)

sign_fits : (b : Bool) → cond b 1 0 ≤ 1
sign_fits true = omega arith
sign_fits false = omega arith

number_formed : (vars : ℕ) (said next : Said) (at : ℕ) (number : Option Signed) → IsFormed vars said → after_number vars said at number ≡ Ok next → IsFormed vars next
number_formed vars said next at None formed is = absurd (no_ok _ _ is)
number_formed vars said next at (Some number) formed is = elim (eqb_tells number.size 0) [
  | inl t ↦
      let same = same_ok _ _ (rw t.0 at is) in
      subst (IsFormed vars) same (record {
        lits = All-push (IsOver vars) said.closed (once said.pending) formed.lits (all_over vars [] said.pending (All-nil (λ l. l < 2 * vars)) formed.pending);
        once = All-push IsOnce said.closed (once said.pending) formed.once (all_once [] said.pending (λ i j d low high. absurd (omega arith)));
        pending = All-nil (λ l. l < 2 * vars);
      })
  | inr t ↦ elim (leb_tells (suc vars) number.size) [
    | inl u ↦ absurd (no_ok _ _ (rw (t.0, u.0) at is))
    | inr u ↦
        let same = same_ok _ _ (rw (t.0, u.0) at is) in
        let some = t.1 in
        let within = u.1 in
        let sign = sign_fits number.negative in
        let lt : literal_of number < 2 * vars = omega arith in
        subst (IsFormed vars) same (record { lits = formed.lits; once = formed.once; pending = All-push (λ l. l < 2 * vars) said.pending (literal_of number) formed.pending lt })
  ]
]

word_formed : (vars : ℕ) (said next : Said) (word : Part) → IsFormed vars said → after_word vars said word ≡ Ok next → IsFormed vars next
unfolding after_word
word_formed vars said next word formed is = number_formed vars said next word.start (signed_of word.bytes) formed is

-- one more piece, and then the rest
step_formed : (vars : ℕ) (next : Said) (rest : Said → Result Said TextFault) (r : Result Said TextFault) → ((s : Said) → r ≡ Ok s → IsFormed vars s)
    → ((s : Said) → IsFormed vars s → rest s ≡ Ok next → IsFormed vars next) → unless_fault rest r ≡ Ok next → IsFormed vars next
step_formed vars next rest (Ok s) one more is = more s (one s refl) is
step_formed vars next rest (Err f) one more is = absurd (no_ok _ _ is)

words_formed : (vars : ℕ) (said next : Said) (ws : List Part) → IsFormed vars said → after_words vars said ws ≡ Ok next → IsFormed vars next
words_formed vars said next [] formed is = subst (IsFormed vars) (same_ok _ _ is) formed
words_formed vars said next (w ∷ ws) formed is =
    step_formed vars next (λ n. after_words vars n ws) (after_word vars said w) (λ s e. word_formed vars said s w formed e) (λ s f e. words_formed vars s next ws f e) is

line_formed : (vars : ℕ) (said next : Said) (line : Part) → IsFormed vars said → after_line vars said line ≡ Ok next → IsFormed vars next
line_formed vars said next line formed is = elim (cases_Bool (is_empty said.pending && is_comment line.bytes)) [
  | inl e ↦ subst (IsFormed vars) (same_ok _ _ (rw e at is)) formed
  | inr e ↦ words_formed vars said next (words is_blank line.start line.bytes) formed (rw e at is)
]

lines_formed : (vars : ℕ) (said next : Said) (ls : List Part) → IsFormed vars said → after_lines vars said ls ≡ Ok next → IsFormed vars next
lines_formed vars said next [] formed is = subst (IsFormed vars) (same_ok _ _ is) formed
lines_formed vars said next (l ∷ ls) formed is =
    step_formed vars next (λ n. after_lines vars n ls) (after_line vars said l) (λ s e. line_formed vars said s l formed e) (λ s f e. lines_formed vars s next ls f e) is

end_formed : (len : ℕ) (head : Head) (said : Said) (cnf : Cnf) → head.vars ≤ FORMULA_LIMIT → head.clauses ≤ FORMULA_LIMIT → IsFormed head.vars said → at_end len head said ≡ Ok cnf → IsFormula cnf
end_formed len head said cnf vars clauses formed is = elim (cases_Bool (not (is_empty said.pending))) [
  | inl e ↦ absurd (no_ok _ _ (rw e at is))
  | inr e ↦ elim (eqb_tells (length said.closed) head.clauses) [
    | inr t ↦ absurd (no_ok _ _ (rw (e, t.0) at is))
    | inl t ↦
        let count = t.1 in
        subst IsFormula (same_ok _ _ (rw (e, t.0) at is)) (record { lits = formed.lits; once = formed.once; vars = vars; count = omega arith })
  ]
]

ended_formed : (len : ℕ) (head : Head) (cnf : Cnf) (r : Result Said TextFault) → head.vars ≤ FORMULA_LIMIT → head.clauses ≤ FORMULA_LIMIT → ((s : Said) → r ≡ Ok s → IsFormed head.vars s)
    → unless_fault (at_end len head) r ≡ Ok cnf → IsFormula cnf
ended_formed len head cnf (Ok s) vars clauses formed is = end_formed len head s cnf vars clauses (formed s refl) is
ended_formed len head cnf (Err f) vars clauses formed is = absurd (no_ok _ _ is)

-- what follows a head whose numbers are small
pub formed : (len : ℕ) (head : Head) (rest : List Part) (cnf : Cnf) → head.vars ≤ FORMULA_LIMIT → head.clauses ≤ FORMULA_LIMIT → after_head len rest head ≡ Ok cnf → IsFormula cnf
formed len head rest cnf vars clauses is =
    ended_formed len head cnf (after_lines head.vars nothing_said rest) vars clauses
    (λ s e. lines_formed head.vars nothing_said s rest (record { lits = All-nil (IsOver head.vars); once = All-nil IsOnce; pending = All-nil (λ l. l < 2 * head.vars) }) e) is
