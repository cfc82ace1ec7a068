-- A graph that is read is well formed.
use Rattle.std.proofs.Common.{◌≡◌, ◌≢◌, ◌∙◌, ◌<◌, ◌≤◌, ◌+◌, ◌-◌, ◌*◌, ◌==◌, ℕ, Bool, cond, true, false, zero, suc, refl, ap, sym, subst, arith, List, [], ◌∷◌, length, drop, take, get_or, Option, None, Some, Result, Ok, Err, zero-add}
use Rattle.rsfq_ids.specs.declared.limits.TheConstants.{AIG_LIMIT}
use Rattle.std.specs.Prelude.{nat_lt, replicate, slice_get, ◌||◌}
use Rattle.std.specs.Option.{option_map}
use Rattle.std.proofs.lemmas.Bool.{ltb-false, leb-true, eqb-true, eqb-false}
use Rattle.std.proofs.lemmas.Option.{slice_get_within, get_or_from_slice_get}
use Rattle.std.proofs.lemmas.List.{length-set, length-replicate}
use Rattle.golden_aig.specs.declared.graph.Aig.{Aig}
use Rattle.golden_aig.specs.declared.graph.And.{And}
use Rattle.golden_aig.specs.Aig.{IsAig, IsAndAt}
use Rattle.aiger_parts.specs.declared.fault.Stop.{Stop}
use Rattle.aiger_parts.specs.declared.header.Header.{Header}
use Rattle.aiger_parts.specs.declared.fault.AigerWhy.TheVariants as why
use Rattle.aiger_parts.specs.Reading.{◌>>=◌, fault, literal_at, and_at, many_at, number_at, field_at, line_end_at, difference_at}
use Rattle.aiger_parts.specs.Header.{header_at, has_head, fits_form, variables_at, latches_at, counts_at, zeros_at, spaces_in}
use Rattle.aiger_parts.specs.declared.header.Form.{Form}
use Rattle.aiger_parts.specs.declared.header.Form.TheVariants as form
use Rattle.aiger_parts.specs.Symbols.{Entries, symbol_of, with_symbol, put_free, with_line, line_at, line_or, ends_symbols, symbols_at, line_length}
use Rattle.aiger_read.specs.Graph.{graph_at}

-- what two steps in turn gave, each gave
pub bind_ok : {A B : Type 0} (r : Result A Stop) (f : A → Result B Stop) (y : B) → (r >>= f) ≡ Ok y → (x : A) × (r ≡ Ok x) × (f x ≡ Ok y)
bind_ok (Ok x) f y e = (x, refl, e)
bind_ok (Err s) f y e = absurd cc

-- a step behind a test was taken
pub unless_ok : {A : Type 0} (b : Bool) (s : Stop) (r : Result A Stop) (y : A) → cond b (Err s) r ≡ Ok y → (b ≡ false) × (r ≡ Ok y)
unless_ok true s r y e = absurd cc
unless_ok false s r y e = (refl, e)

pub when_ok : {A : Type 0} (b : Bool) (s : Stop) (r : Result A Stop) (y : A) → cond b r (Err s) ≡ Ok y → (b ≡ true) × (r ≡ Ok y)
when_ok true s r y e = (refl, e)
when_ok false s r y e = absurd cc

pub or_false : (a b : Bool) → (a || b) ≡ false → (a ≡ false) × (b ≡ false)
or_false true b e = absurd cc
or_false false b e = (refl, e)

value_or : {A : Type 0} → A → Result A Stop → A
value_or d (Ok x) = x
value_or d (Err s) = d

abbrev pub given : {A : Type 0} → A → Result A Stop
given x = Ok x

pub same_value : {A : Type 0} (x y : A) → given x ≡ given y → x ≡ y
unfolding value_or
same_value x y e = ap (value_or x) e

cons_each : {A : Type 0} (P : ℕ → A → Type 0) (place : ℕ) (x : A) (ys : List A) → P place x → ((k : ℕ) (d : A) → k < length ys → P (place + 1 + k) (get_or ys k d))
    → (k : ℕ) (d : A) → k < length (x ∷ ys) → P (place + k) (get_or (x ∷ ys) k d)
cons_each P place x ys here rest zero d lt =
    let at : place ≡ place + 0 = omega arith in
    subst (λ (n : ℕ). P n x) at here
cons_each P place x ys here rest (suc k) d lt =
    let at : place + 1 + k ≡ place + suc k = omega arith in
    subst (λ (n : ℕ). P n (get_or ys k d)) at (rest k d (omega arith))

-- what holds of each that is read holds of all
pub many_ok : {A : Type 0} (P : ℕ → A → Type 0) (one : ℕ → List ℕ → Result (A × List ℕ) Stop) → ((place : ℕ) (bytes : List ℕ) (x : A × List ℕ) → one place bytes ≡ Ok x → P place x.0)
    → (count place : ℕ) (bytes : List ℕ) (xs : List A × List ℕ) → many_at one place count bytes ≡ Ok xs
    → (length xs.0 ≡ count) × ((k : ℕ) (d : A) → k < length xs.0 → P (place + k) (get_or xs.0 k d))
unfolding many_at
many_ok {A} P one each zero place bytes xs e =
    let is : xs.0 ≡ [] = ap (λ (p : List A × List ℕ). p.0) (sym (same_value ([], bytes) xs e)) in
    let none : length xs.0 ≡ 0 = ap length is in
    (none, λ k d lt. absurd (omega arith))
many_ok {A} P one each (suc count) place bytes xs e =
    let first = bind_ok (one place bytes) (λ first. many_at one (place + 1) count first.1 >>= λ others. Ok (first.0 ∷ others.0, others.1)) xs e in
    let others = bind_ok (many_at one (place + 1) count first.0.1) (λ others. Ok (first.0.0 ∷ others.0, others.1)) xs first.2 in
    let is : first.0.0 ∷ others.0.0 ≡ xs.0 = ap (λ (p : List A × List ℕ). p.0) (same_value (first.0.0 ∷ others.0.0, others.0.1) xs others.2) in
    let more = many_ok P one each count (place + 1) first.0.1 others.0 others.1 in
    let Q : List A → Type 0 = λ l. (length l ≡ suc count) × ((k : ℕ) (d : A) → k < length l → P (place + k) (get_or l k d)) in
    subst Q is (ap suc more.0, cons_each P place first.0.0 others.0.0 (each place bytes first.0 first.1) more.1)

-- an AND that is read may stand at its place
pub and_ok : (lhs : ℕ) (bytes : List ℕ) (x : And × List ℕ) → and_at lhs bytes ≡ Ok x → (x.0.lhs ≡ lhs) × (x.0.rhs0 < lhs) × (x.0.rhs1 < lhs)
unfolding and_at
and_ok lhs bytes x e =
    let first = bind_ok (difference_at bytes) (λ first. cond (first.0 == 0 || nat_lt lhs first.0) (Err (fault why.Order bytes)) (difference_at first.1) >>= λ second.
    cond (nat_lt (lhs - first.0) second.0) (Err (fault why.Order first.1)) (Ok (record { lhs = lhs; rhs0 = lhs - first.0; rhs1 = lhs - first.0 - second.0 }, second.1))) x e in
    let second = bind_ok (cond (first.0.0 == 0 || nat_lt lhs first.0.0) (Err (fault why.Order bytes)) (difference_at first.0.1)) (λ second.
    cond (nat_lt (lhs - first.0.0) second.0) (Err (fault why.Order first.0.1)) (Ok (record { lhs = lhs; rhs0 = lhs - first.0.0; rhs1 = lhs - first.0.0 - second.0 }, second.1))) x first.2 in
    let test = unless_ok (first.0.0 == 0 || nat_lt lhs first.0.0) (fault why.Order bytes) (difference_at first.0.1) second.0 second.1 in
    let both = or_false (first.0.0 == 0) (nat_lt lhs first.0.0) test.0 in
    let some : first.0.0 ≢ 0 = eqb-false first.0.0 0 both.0 in
    let le : first.0.0 ≤ lhs = ltb-false lhs first.0.0 both.1 in
    let made : And × List ℕ = (record { lhs = lhs; rhs0 = lhs - first.0.0; rhs1 = lhs - first.0.0 - second.0.0 }, second.0.1) in
    let last = unless_ok (nat_lt (lhs - first.0.0) second.0.0) (fault why.Order first.0.1) (Ok made) x second.2 in
    let is : made ≡ x = same_value made x last.1 in
    let Q : And × List ℕ → Type 0 = λ y. (y.0.lhs ≡ lhs) × (y.0.rhs0 < lhs) × (y.0.rhs1 < lhs) in
    subst Q is (refl, omega arith, omega arith)

pub literal_ok : (top : ℕ) (bytes : List ℕ) (x : ℕ × List ℕ) → literal_at top bytes ≡ Ok x → x.0 ≤ top
unfolding literal_at
literal_ok top bytes x e =
    let line = unless_ok (length bytes == 0) (fault why.Truncated []) (number_at bytes >>= λ n. cond (nat_lt top n.0) (Err (fault (why.Range n.0) bytes)) (line_end_at n.1) >>= λ behind. Ok (n.0, behind)) x e in
    let number = bind_ok (number_at bytes) (λ n. cond (nat_lt top n.0) (Err (fault (why.Range n.0) bytes)) (line_end_at n.1) >>= λ behind. Ok (n.0, behind)) x line.1 in
    let behind = bind_ok (cond (nat_lt top number.0.0) (Err (fault (why.Range number.0.0) bytes)) (line_end_at number.0.1)) (λ behind. Ok (number.0.0, behind)) x number.2 in
    let test = unless_ok (nat_lt top number.0.0) (fault (why.Range number.0.0) bytes) (line_end_at number.0.1) behind.0 behind.1 in
    let le : number.0.0 ≤ top = ltb-false top number.0.0 test.0 in
    let is : (number.0.0, behind.0) ≡ x = same_value (number.0.0, behind.0) x behind.2 in
    let same : number.0.0 ≡ x.0 = ap (λ (p : ℕ × List ℕ). p.0) is in
    omega arith

fits : (form : Form) (h : Header) → fits_form form h ≡ true → h.inputs + h.ands ≤ h.variables
fits form.Ascii h e = leb-true (h.inputs + h.ands) h.variables e
fits form.Binary h e = let same : h.variables ≡ h.inputs + h.ands = eqb-true h.variables (h.inputs + h.ands) e in omega arith

counts_ok : (variables : ℕ) (bytes : List ℕ) (x : Header × List ℕ) → counts_at variables bytes ≡ Ok x → x.0.variables ≡ variables
unfolding counts_at
counts_ok variables bytes x e =
    let inputs = bind_ok (field_at bytes) (λ inputs. latches_at inputs.1 >>= λ rest. field_at rest >>= λ outputs. field_at outputs.1 >>= λ ands.
    Ok (record { variables = variables; inputs = inputs.0; outputs = outputs.0; ands = ands.0 }, ands.1)) x e in
    let rest = bind_ok (latches_at inputs.0.1) (λ rest. field_at rest >>= λ outputs. field_at outputs.1 >>= λ ands. Ok (record { variables = variables; inputs = inputs.0.0; outputs = outputs.0; ands = ands.0 }, ands.1)) x inputs.2 in
    let outputs = bind_ok (field_at rest.0) (λ outputs. field_at outputs.1 >>= λ ands. Ok (record { variables = variables; inputs = inputs.0.0; outputs = outputs.0; ands = ands.0 }, ands.1)) x rest.2 in
    let ands = bind_ok (field_at outputs.0.1) (λ ands. Ok (record { variables = variables; inputs = inputs.0.0; outputs = outputs.0.0; ands = ands.0 }, ands.1)) x outputs.2 in
    let made : Header × List ℕ = (record { variables = variables; inputs = inputs.0.0; outputs = outputs.0.0; ands = ands.0.0 }, ands.0.1) in
    sym (ap (λ (p : Header × List ℕ). p.0.variables) (same_value made x ands.2))

pub header_ok : (form : Form) (bytes : List ℕ) (x : Header × List ℕ) → header_at form bytes ≡ Ok x → (x.0.variables ≤ AIG_LIMIT) × (x.0.inputs + x.0.ands ≤ x.0.variables)
unfolding header_at
header_ok form bytes x e =
    let variables = bind_ok (cond (has_head form bytes) (variables_at (drop 4 bytes)) (Err (fault why.Header bytes))) (λ variables. counts_at variables.0 variables.1 >>= λ counts. zeros_at (spaces_in bytes - 5) counts.1 >>= λ behind.
    cond (fits_form form counts.0) (Ok (counts.0, behind)) (Err (fault why.Header bytes))) x e in
    let counts = bind_ok (counts_at variables.0.0 variables.0.1) (λ counts. zeros_at (spaces_in bytes - 5) counts.1 >>= λ behind.
    cond (fits_form form counts.0) (Ok (counts.0, behind)) (Err (fault why.Header bytes))) x variables.2 in
    let behind = bind_ok (zeros_at (spaces_in bytes - 5) counts.0.1) (λ behind. cond (fits_form form counts.0.0) (Ok (counts.0.0, behind)) (Err (fault why.Header bytes))) x counts.2 in
    let last = when_ok (fits_form form counts.0.0) (fault why.Header bytes) (Ok (counts.0.0, behind.0)) x behind.2 in
    let is : counts.0.0 ≡ x.0 = ap (λ (p : Header × List ℕ). p.0) (same_value (counts.0.0, behind.0) x last.1) in
    let head = when_ok (has_head form bytes) (fault why.Header bytes) (variables_at (drop 4 bytes)) variables.0 variables.1 in
    let field = bind_ok (field_at (drop 4 bytes)) (λ n. cond (nat_lt AIG_LIMIT n.0) (Err (fault (why.Limit n.0) (drop 4 bytes))) (Ok (n.0, n.1))) variables.0 head.1 in
    let limit = unless_ok (nat_lt AIG_LIMIT field.0.0) (fault (why.Limit field.0.0) (drop 4 bytes)) (Ok (field.0.0, field.0.1)) variables.0 field.2 in
    let le : field.0.0 ≤ AIG_LIMIT = ltb-false AIG_LIMIT field.0.0 limit.0 in
    let same : field.0.0 ≡ variables.0.0 = ap (λ (p : ℕ × List ℕ). p.0) (same_value (field.0.0, field.0.1) variables.0 limit.1) in
    let top : counts.0.0.variables ≡ variables.0.0 = counts_ok variables.0.0 variables.0.1 counts.0 counts.1 in
    let small : counts.0.0.variables ≤ AIG_LIMIT = omega arith in
    subst (λ (h : Header). (h.variables ≤ AIG_LIMIT) × (h.inputs + h.ands ≤ h.variables)) is (small, fits form counts.0.0 last.0)

symbol_put : (entries more : Entries) (s : Option (ℕ × List ℕ)) → with_symbol entries s ≡ Some more → length more ≡ length entries
symbol_put entries more None e = absurd cc
symbol_put entries more (Some s) e = go (slice_get entries s.0) e where
  unwrap : Entries → Option Entries → Entries
  unwrap d None = d
  unwrap d (Some x) = x

  go : (o : Option (Option (List ℕ))) → put_free entries s.0 s.1 o ≡ Some more → length more ≡ length entries
  go None h = absurd cc
  go (Some (Some n)) h = absurd cc
  go (Some None) h = ap length (sym (ap (unwrap more) h)) ∙ length-set entries s.0 (Some s.1)

abbrev pub Keeps : Entries × Entries → Entries × Entries → Type 0
Keeps before after = (length after.0 ≡ length before.0) × (length after.1 ≡ length before.1)

pub line_put : (entries more : Entries × Entries) (line : List ℕ) → with_line entries line ≡ Some more → Keeps entries more
line_put entries more [] e = absurd cc
line_put entries more (kind ∷ bytes) e = go (kind == 105) (kind == 111) e where
  unwrap : Entries × Entries → Option (Entries × Entries) → Entries × Entries
  unwrap d None = d
  unwrap d (Some x) = x

  first : (o : Option Entries) → with_symbol entries.0 (symbol_of bytes) ≡ o → option_map (λ inputs. (inputs, entries.1)) o ≡ Some more → Keeps entries more
  first None is h = absurd cc
  first (Some inputs) is h =
      let same : (inputs, entries.1) ≡ more = ap (unwrap more) h in
      subst (Keeps entries) same (symbol_put entries.0 inputs (symbol_of bytes) is, refl)

  second : (o : Option Entries) → with_symbol entries.1 (symbol_of bytes) ≡ o → option_map (λ outputs. (entries.0, outputs)) o ≡ Some more → Keeps entries more
  second None is h = absurd cc
  second (Some outputs) is h =
      let same : (entries.0, outputs) ≡ more = ap (unwrap more) h in
      subst (Keeps entries) same (refl, symbol_put entries.1 outputs (symbol_of bytes) is)

  go : (i o : Bool) → cond i (option_map (λ inputs. (inputs, entries.1)) (with_symbol entries.0 (symbol_of bytes))) (cond o (option_map (λ outputs. (entries.0, outputs)) (with_symbol entries.1 (symbol_of bytes))) None) ≡ Some more
      → Keeps entries more
  go true o h = first (with_symbol entries.0 (symbol_of bytes)) refl h
  go false true h = second (with_symbol entries.1 (symbol_of bytes)) refl h
  go false false h = absurd cc

line_ok : (entries more : Entries × Entries) (bytes : List ℕ) → line_at entries bytes ≡ Ok more → Keeps entries more
unfolding line_at
line_ok entries more bytes e = go (with_line entries (take (line_length bytes) bytes)) refl e where
  go : (o : Option (Entries × Entries)) → with_line entries (take (line_length bytes) bytes) ≡ o → line_or bytes o ≡ Ok more → Keeps entries more
  go None is h = absurd cc
  go (Some x) is h = line_put entries more (take (line_length bytes) bytes) (is ∙ ap Some (same_value x more h))

pub symbols_ok : (lines : ℕ) (entries after : Entries × Entries) (bytes : List ℕ) → symbols_at lines entries bytes ≡ Ok after → Keeps entries after
unfolding symbols_at
symbols_ok zero entries after bytes e = subst (Keeps entries) (same_value entries after e) (refl, refl)
symbols_ok (suc lines) entries after bytes e = go (ends_symbols bytes) e (λ more. symbols_ok lines more after (drop (line_length bytes + 1) bytes)) where
  go : (b : Bool) → cond b (Ok entries) (line_at entries bytes >>= λ more. symbols_at lines more (drop (line_length bytes + 1) bytes)) ≡ Ok after
      → ((more : Entries × Entries) → symbols_at lines more (drop (line_length bytes + 1) bytes) ≡ Ok after → Keeps more after) → Keeps entries after
  go true h more = subst (Keeps entries) (same_value entries after h) (refl, refl)
  go false h more =
      let step = bind_ok (line_at entries bytes) (λ m. symbols_at lines m (drop (line_length bytes + 1) bytes)) after h in
      let one = line_ok entries step.0 bytes step.1 in
      let rest = more step.0 step.2 in
      (rest.0 ∙ one.0, rest.1 ∙ one.1)

pub and_at_place : (inputs place : ℕ) (one : And) → (one.lhs ≡ 2 * (inputs + place + 1)) × (one.rhs0 < 2 * (inputs + place + 1)) × (one.rhs1 < 2 * (inputs + place + 1)) → IsAndAt inputs place one
and_at_place inputs place one ok =
    let lhs = ok.0 in
    let first = ok.1 in
    let second = ok.2 in
    record { lhs = lhs; rhs0 = omega arith; rhs1 = omega arith }

made_ok : (h : Header) (ands : List And) (outputs : List ℕ) (ins outs : Entries) → h.inputs + h.ands ≤ AIG_LIMIT → length outputs ≡ h.outputs
    → ((k d : ℕ) → k < length outputs → get_or outputs k d ≤ 2 * (h.inputs + h.ands) + 1) → length ands ≡ h.ands
    → ((k : ℕ) (d : And) → k < length ands → IsAndAt h.inputs (0 + k) (get_or ands k d)) → length ins ≡ h.inputs → length outs ≡ h.outputs
    → IsAig (record { inputs = h.inputs; ands = ands; outputs = outputs; in_names = ins; out_names = outs })
made_ok h ands outputs ins outs small lines low count gates in_count out_count = record {
  size = omega arith;
  ands = λ place one is.
      let lt : place < length ands = slice_get_within ands place one is in
      let at : 0 + place ≡ place = zero-add place in
      let same : get_or ands place one ≡ one = get_or_from_slice_get ands place one one is in
      subst (λ (n : ℕ). IsAndAt h.inputs n one) at (subst (IsAndAt h.inputs (0 + place)) same (gates place one lt));
  outputs = λ k d lt.
      let le = low k d lt in
      omega arith;
  in_names = in_count;
  out_names = out_count ∙ sym lines;
}

pub graph_ok : (bytes : List ℕ) (aig : Aig) → graph_at bytes ≡ Ok aig → IsAig aig
unfolding graph_at
graph_ok bytes aig e =
    let head = bind_ok (header_at form.Binary bytes) (λ head. many_at (λ place. literal_at (2 * (head.0.inputs + head.0.ands) + 1)) 0 head.0.outputs head.1 >>= λ outputs. many_at (λ place. and_at (2 * (head.0.inputs + place + 1))) 0 head.0.ands outputs.1 >>= λ ands.
    symbols_at (length ands.1) (replicate head.0.inputs None, replicate head.0.outputs None) ands.1 >>= λ names. Ok (record { inputs = head.0.inputs; ands = ands.0; outputs = outputs.0; in_names = names.0; out_names = names.1 })) aig e in
    let h : Header = head.0.0 in
    let outputs = bind_ok (many_at (λ place. literal_at (2 * (h.inputs + h.ands) + 1)) 0 h.outputs head.0.1) (λ outputs. many_at (λ place. and_at (2 * (h.inputs + place + 1))) 0 h.ands outputs.1 >>= λ ands.
    symbols_at (length ands.1) (replicate h.inputs None, replicate h.outputs None) ands.1 >>= λ names. Ok (record { inputs = h.inputs; ands = ands.0; outputs = outputs.0; in_names = names.0; out_names = names.1 })) aig head.2 in
    let ands = bind_ok (many_at (λ place. and_at (2 * (h.inputs + place + 1))) 0 h.ands outputs.0.1) (λ ands.
    symbols_at (length ands.1) (replicate h.inputs None, replicate h.outputs None) ands.1 >>= λ names. Ok (record { inputs = h.inputs; ands = ands.0; outputs = outputs.0.0; in_names = names.0; out_names = names.1 })) aig outputs.2 in
    let names = bind_ok (symbols_at (length ands.0.1) (replicate h.inputs None, replicate h.outputs None) ands.0.1) (λ names. Ok (record { inputs = h.inputs; ands = ands.0.0; outputs = outputs.0.0; in_names = names.0; out_names = names.1 })) aig ands.2 in
    let made : Aig = record { inputs = h.inputs; ands = ands.0.0; outputs = outputs.0.0; in_names = names.0.0; out_names = names.0.1 } in
    let small : h.inputs + h.ands ≤ AIG_LIMIT = (let ok = header_ok form.Binary bytes head.0 head.1 in let low = ok.0 in let high = ok.1 in omega arith) in
    let lines = many_ok (λ place l. l ≤ 2 * (h.inputs + h.ands) + 1) (λ place. literal_at (2 * (h.inputs + h.ands) + 1)) (λ place bs x is. literal_ok (2 * (h.inputs + h.ands) + 1) bs x is) h.outputs 0 head.0.1 outputs.0 outputs.1 in
    let gates = many_ok (IsAndAt h.inputs) (λ place. and_at (2 * (h.inputs + place + 1))) (λ place bs x is. and_at_place h.inputs place x.0 (and_ok (2 * (h.inputs + place + 1)) bs x is)) h.ands 0 outputs.0.1 ands.0 ands.1 in
    let kept = symbols_ok (length ands.0.1) (replicate h.inputs None, replicate h.outputs None) names.0 ands.0.1 names.1 in
    subst IsAig (same_value made aig names.2) (made_ok h ands.0.0 outputs.0.0 names.0.0 names.0.1 small lines.0 lines.1 gates.0 gates.1
    (kept.0 ∙ length-replicate h.inputs None) (kept.1 ∙ length-replicate h.outputs None))
