-- Binary files, read and written.
use Rattle.std.proofs.Common.{◌≡◌, ◌≢◌, ◌⊎◌, ◌∙◌, inl, inr, ◌<◌, ◌≤◌, ◌+◌, ◌-◌, ◌*◌, ◌==◌, ℕ, true, false, cond, zero, suc, refl, ap, sym, subst, arith, List, [], ◌∷◌, ◌++◌, length, length-append, append_assoc, get_or, None, Some, Result, Ok, Err}
use Rattle.std.specs.Prelude.{nat_lt, slice_get, replicate}
use Rattle.std.specs.List.{AllZip, concat}
use Rattle.std.proofs.lemmas.Bool.{le-ltb, eqb-true, eq-eqb, ne_eqb}
use Rattle.std.proofs.lemmas.List.{append-nil}
use Rattle.golden_aig.specs.declared.graph.Aig.{Aig}
use Rattle.golden_aig.specs.declared.graph.And.{And}
use Rattle.golden_aig.specs.Aig.{IsAig, IsAndAt, variables_of}
use Rattle.aiger_parts.specs.declared.fault.Stop.{Stop}
use Rattle.aiger_parts.specs.declared.fault.AigerWhy.TheVariants as why
use Rattle.aiger_parts.specs.declared.header.Form.TheVariants as form
use Rattle.aiger_parts.specs.declared.header.Header.{Header}
use Rattle.aiger_parts.specs.Reading.{◌>>=◌, fault, number_at, line_end_at, literal_at, and_at, many_at}
use Rattle.aiger_parts.specs.Header.{header_at, fits_form}
use Rattle.aiger_parts.specs.Symbols.{Entries, symbols_at}
use Rattle.aiger_read.specs.Graph.{graph_at}
use Rattle.aiger_read.specs.Spelling.{WritesNumber, WriteGroups, BeginsWithAnd, BeginsWithDifference}
use Rattle.aiger_read.specs.Spelled.{in_lines, IsHeadLine, WritesDifference, WritesAnd, IsBinaryFile, AreSymbolLines, IsSymbolLine}
use Rattle.aiger_read.proofs.WellFormed.{given, same_value, bind_ok, unless_ok, graph_ok}
use Rattle.aiger_read.proofs.AndLaws.{ands}
use Rattle.aiger_read.proofs.FileLines.{LineAt, LinesAt, AllSome, lines_none, written, lines_of, lines_of_open, line_end, line_end_again}
use Rattle.aiger_read.proofs.FieldTexts.{FieldAt, number_read, number_written, field_some, tail_stops, all_some}
use Rattle.aiger_read.proofs.HeadLines.{head_read, head_written}
use Rattle.aiger_read.proofs.SymbolFiles.{EndAt, symbols_read, symbols_written}
use Rattle.aiger_read.proofs.SymbolSets.{lines_are, lines_put, lines_one}
use Rattle.aiger_read.proofs.TextEnds.{TailText, TailAt, tail_text, tail_at, tail_at_open, last_byte}

-- ---- lines of one literal

pub record LiteralLine (bytes : List ℕ) (n : ℕ) (rest : List ℕ) : Type 0 where
  pub field : List ℕ
  pub writes : WritesNumber field n
  pub at : LineAt field bytes rest

-- a field, and the end of its line
pub field_line : (bytes tail rest : List ℕ) (n : ℕ) → FieldAt bytes n tail → line_end_at tail ≡ given rest → LiteralLine bytes n rest
field_line bytes tail rest n f e = record { field = f.field; writes = f.writes; at = record { tail = tail; parts = f.parts; ends = line_end tail rest e; some = field_some f.field n f.writes } }

abbrev pair : ℕ → List ℕ → ℕ × List ℕ
pair n rest = (n, rest)

literal_read : (top : ℕ) (bytes : List ℕ) (n : ℕ) (rest : List ℕ) → literal_at top bytes ≡ given (pair n rest) → LiteralLine bytes n rest
unfolding literal_at
literal_read top bytes n rest e =
    let line = unless_ok (length bytes == 0) (fault why.Truncated []) (number_at bytes >>= λ x. cond (nat_lt top x.0) (Err (fault (why.Range x.0) bytes)) (line_end_at x.1) >>= λ behind. Ok (x.0, behind)) (pair n rest) e in
    let number = bind_ok (number_at bytes) (λ x. cond (nat_lt top x.0) (Err (fault (why.Range x.0) bytes)) (line_end_at x.1) >>= λ behind. Ok (x.0, behind)) (pair n rest) line.1 in
    let behind = bind_ok (cond (nat_lt top number.0.0) (Err (fault (why.Range number.0.0) bytes)) (line_end_at number.0.1)) (λ behind. Ok (number.0.0, behind)) (pair n rest) number.2 in
    let test = unless_ok (nat_lt top number.0.0) (fault (why.Range number.0.0) bytes) (line_end_at number.0.1) behind.0 behind.1 in
    let is = same_value (pair number.0.0 behind.0) (pair n rest) behind.2 in
    let value : number.0.0 ≡ n = ap (λ (p : ℕ × List ℕ). p.0) is in
    let rest_is : behind.0 ≡ rest = ap (λ (p : ℕ × List ℕ). p.1) is in
    let field = subst (λ (m : ℕ). FieldAt bytes m number.0.1) value (number_read bytes number.0.0 number.0.1 number.1) in
    field_line bytes number.0.1 rest n field (test.1 ∙ ap given rest_is)

pub some_bytes : (text bytes rest : List ℕ) → LineAt text bytes rest → (length bytes == 0) ≡ false
some_bytes text bytes rest at =
    let len : length bytes ≡ length text + length at.tail = ap length at.parts ∙ length-append text at.tail in
    let some = at.some in
    let ne : length bytes ≢ 0 = λ e. absurd (omega arith) in
    ne_eqb (length bytes) 0 ne

literal_written : (top : ℕ) (bytes : List ℕ) (n : ℕ) (rest field : List ℕ) → WritesNumber field n → LineAt field bytes rest → n ≤ top → literal_at top bytes ≡ given (pair n rest)
unfolding literal_at
literal_written top bytes n rest field w at le =
    let read : number_at bytes ≡ given (pair n at.tail) = ap number_at at.parts ∙ number_written field at.tail n w (tail_stops at.tail rest at.ends) in
    rw (some_bytes field bytes rest at, read, le-ltb top n le, line_end_again at.tail rest at.ends) refl

abbrev lists : List ℕ → List ℕ → List ℕ × List ℕ
lists literals rest = (literals, rest)

pub record LiteralLines (bytes : List ℕ) (literals : List ℕ) (rest : List ℕ) : Type 0 where
  pub lines : List (List ℕ)
  pub write : AllZip WritesNumber lines literals
  pub at : LinesAt lines bytes rest

pub literals_read : (top count place : ℕ) (bytes literals rest : List ℕ) → many_at (λ p. literal_at top) place count bytes ≡ given (literals, rest) → LiteralLines bytes literals rest
unfolding many_at
literals_read top zero place bytes literals rest e =
    let is = same_value (lists [] bytes) (lists literals rest) e in
    let none_is : [] ≡ literals = ap (λ (p : List ℕ × List ℕ). p.0) is in
    let rest_is : bytes ≡ rest = ap (λ (p : List ℕ × List ℕ). p.1) is in
    subst (λ (l : List ℕ). LiteralLines bytes l rest) none_is (record { lines = []; write = tt; at = rest_is })
literals_read top (suc count) place bytes literals rest e =
    let first = bind_ok (literal_at top bytes) (λ first. many_at (λ p. literal_at top) (place + 1) count first.1 >>= λ others. Ok (first.0 ∷ others.0, others.1)) (lists literals rest) e in
    let others = bind_ok (many_at (λ p. literal_at top) (place + 1) count first.0.1) (λ others. Ok (first.0.0 ∷ others.0, others.1)) (lists literals rest) first.2 in
    let is = same_value (lists (first.0.0 ∷ others.0.0) others.0.1) (lists literals rest) others.2 in
    let literals_are : first.0.0 ∷ others.0.0 ≡ literals = ap (λ (p : List ℕ × List ℕ). p.0) is in
    let rest_is : others.0.1 ≡ rest = ap (λ (p : List ℕ × List ℕ). p.1) is in
    let line = literal_read top bytes first.0.0 first.0.1 first.1 in
    let more = literals_read top count (place + 1) first.0.1 others.0.0 rest (others.1 ∙ ap (λ (r : List ℕ). given (lists others.0.0 r)) rest_is) in
    subst (λ (l : List ℕ). LiteralLines bytes l rest) literals_are (record { lines = line.field ∷ more.lines; write = (line.writes, more.write); at = (first.0.1, line.at, more.at) })

pub literals_written : (top : ℕ) (lines : List (List ℕ)) (literals : List ℕ) (place : ℕ) (bytes rest : List ℕ) → AllZip WritesNumber lines literals → LinesAt lines bytes rest → ((k d : ℕ) → k < length literals → get_or literals k d ≤ top)
    → many_at (λ p. literal_at top) place (length literals) bytes ≡ given (literals, rest)
unfolding many_at
literals_written top [] [] place bytes rest write at low = ap (λ (r : List ℕ). given (lists [] r)) at
literals_written top [] (n ∷ ns) place bytes rest write at low = absurd write
literals_written top (line ∷ lines) [] place bytes rest write at low = absurd write
literals_written top (line ∷ lines) (n ∷ ns) place bytes rest write (next, at, more) low =
    let le : n ≤ top = low 0 0 (omega arith) in
    let first = literal_written top bytes n next line write.0 at le in
    let others = literals_written top lines ns (place + 1) next rest write.1 more (λ k d lt. low (suc k) d (omega arith)) in
    rw (first, others) refl

-- ---- ANDs

difference_text : (bytes : List ℕ) (n m : ℕ) (rest : List ℕ) (d : BeginsWithDifference bytes n rest) → n ≡ m → WritesDifference d.front m
difference_text bytes n m rest d same = subst (WritesDifference d.front) same (record { few = d.few; groups = d.groups; small = d.small })

record AndText (bytes : List ℕ) (one : And) (rest : List ℕ) : Type 0 where
  text : List ℕ
  writes : WritesAnd text one
  parts : bytes ≡ text ++ rest

and_text : (lhs : ℕ) (bytes : List ℕ) (one : And) (rest : List ℕ) → BeginsWithAnd lhs bytes one rest → AndText bytes one rest
and_text lhs bytes one rest b =
    let first = b.first_stands in
    let second = b.second_stands in
    let lhs_is = b.lhs_is in
    let rhs0_is = b.rhs0_is in
    let rhs1_is = b.rhs1_is in
    record {
      text = first.front ++ second.front;
      writes = record {
        first = first.front;
        second = second.front;
        bytes_are = refl;
        to_rhs0 = difference_text bytes b.first (one.lhs - one.rhs0) b.between first (omega arith);
        to_rhs1 = difference_text b.between b.second (one.rhs0 - one.rhs1) rest second (omega arith);
        falls = omega arith;
      };
      parts = first.parts ∙ ap (λ (r : List ℕ). first.front ++ r) second.parts ∙ sym (append_assoc first.front second.front rest);
    }

and_begins : (text : List ℕ) (one : And) (rest : List ℕ) → WritesAnd text one → one.rhs0 < one.lhs → BeginsWithAnd one.lhs (text ++ rest) one rest
and_begins text one rest w lt =
    let a = w.to_rhs0 in
    let b = w.to_rhs1 in
    let falls = w.falls in
    record {
      first = one.lhs - one.rhs0;
      second = one.rhs0 - one.rhs1;
      between = w.second ++ rest;
      first_stands = record { front = w.first; parts = ap (λ (t : List ℕ). t ++ rest) w.bytes_are ∙ append_assoc w.first w.second rest; few = a.few; groups = a.groups; small = a.small };
      second_stands = record { front = w.second; parts = refl; few = b.few; groups = b.groups; small = b.small };
      lhs_is = refl;
      rhs0_is = omega arith;
      rhs1_is = omega arith;
      lower = omega arith;
    }

abbrev and_list : List And → List ℕ → List And × List ℕ
and_list xs rest = (xs, rest)

pub record AndTexts (bytes : List ℕ) (xs : List And) (rest : List ℕ) : Type 0 where
  pub texts : List (List ℕ)
  pub write : AllZip WritesAnd texts xs
  pub parts : bytes ≡ concat texts ++ rest

pub ands_read : (inputs count place : ℕ) (bytes : List ℕ) (xs : List And) (rest : List ℕ) → many_at (λ p. and_at (2 * (inputs + p + 1))) place count bytes ≡ given (and_list xs rest) → AndTexts bytes xs rest
unfolding many_at
ands_read inputs zero place bytes xs rest e =
    let is = same_value (and_list [] bytes) (and_list xs rest) e in
    let none_is : [] ≡ xs = ap (λ (p : List And × List ℕ). p.0) is in
    let rest_is : bytes ≡ rest = ap (λ (p : List And × List ℕ). p.1) is in
    subst (λ (l : List And). AndTexts bytes l rest) none_is (record { texts = []; write = tt; parts = rest_is })
ands_read inputs (suc count) place bytes xs rest e =
    let lhs = 2 * (inputs + place + 1) in
    let first = bind_ok (and_at lhs bytes) (λ first. many_at (λ p. and_at (2 * (inputs + p + 1))) (place + 1) count first.1 >>= λ others. Ok (first.0 ∷ others.0, others.1)) (and_list xs rest) e in
    let others = bind_ok (many_at (λ p. and_at (2 * (inputs + p + 1))) (place + 1) count first.0.1) (λ others. Ok (first.0.0 ∷ others.0, others.1)) (and_list xs rest) first.2 in
    let is = same_value (and_list (first.0.0 ∷ others.0.0) others.0.1) (and_list xs rest) others.2 in
    let xs_are : first.0.0 ∷ others.0.0 ≡ xs = ap (λ (p : List And × List ℕ). p.0) is in
    let rest_is : others.0.1 ≡ rest = ap (λ (p : List And × List ℕ). p.1) is in
    let text = and_text lhs bytes first.0.0 first.0.1 ((ands lhs bytes first.0.1 first.0.0).0 first.1) in
    let more = ands_read inputs count (place + 1) first.0.1 others.0.0 rest (others.1 ∙ ap (λ (r : List ℕ). given (and_list others.0.0 r)) rest_is) in
    subst (λ (l : List And). AndTexts bytes l rest) xs_are (record {
      texts = text.text ∷ more.texts;
      write = (text.writes, more.write);
      parts = text.parts ∙ ap (λ (r : List ℕ). text.text ++ r) more.parts ∙ sym (append_assoc text.text (concat more.texts) rest);
    })

pub ands_written : (inputs : ℕ) (texts : List (List ℕ)) (xs : List And) (place : ℕ) (rest : List ℕ) → AllZip WritesAnd texts xs → ((k : ℕ) (one : And) → slice_get xs k ≡ Some one → IsAndAt inputs (place + k) one)
    → many_at (λ p. and_at (2 * (inputs + p + 1))) place (length xs) (concat texts ++ rest) ≡ given (and_list xs rest)
unfolding many_at
ands_written inputs [] [] place rest write each = refl
ands_written inputs [] (x ∷ xs) place rest write each = absurd write
ands_written inputs (text ∷ texts) [] place rest write each = absurd write
ands_written inputs (text ∷ texts) (x ∷ xs) place rest write each =
    let is = each 0 x refl in
    let lower = is.rhs0 in
    let lhs : x.lhs ≡ 2 * (inputs + place + 1) = (let at = is.lhs in omega arith) in
    let read : and_at x.lhs (text ++ (concat texts ++ rest)) ≡ given (x, concat texts ++ rest) = (ands x.lhs (text ++ (concat texts ++ rest)) (concat texts ++ rest) x).1 (and_begins text x (concat texts ++ rest) write.0 lower) in
    let first : and_at (2 * (inputs + place + 1)) ((text ++ concat texts) ++ rest) ≡ given (x, concat texts ++ rest) = ap (λ (l : ℕ). and_at l ((text ++ concat texts) ++ rest)) (sym lhs) ∙ ap (and_at x.lhs) (append_assoc text (concat texts) rest) ∙ read in
    let others = ands_written inputs texts xs (place + 1) rest write.1 (λ k one there. (let at : place + suc k ≡ place + 1 + k = omega arith in subst (λ (p : ℕ). IsAndAt inputs p one) at (each (suc k) one there))) in
    rw (first, others) refl

-- ---- the whole file, read

some_groups : (bytes : List ℕ) (n : ℕ) → WriteGroups bytes n → 0 < length bytes
some_groups [] n w = absurd w
some_groups (b ∷ bs) n w = omega arith

no_ands : (texts : List (List ℕ)) (xs : List And) → AllZip WritesAnd texts xs → concat texts ≡ [] → xs ≡ []
no_ands [] [] write e = refl
no_ands [] (x ∷ xs) write e = absurd write
no_ands (text ∷ texts) [] write e = absurd write
no_ands (text ∷ texts) (x ∷ xs) write e =
    let w = write.0 in
    let some = some_groups w.first (x.lhs - x.rhs0) w.to_rhs0.groups in
    let len : length (text ++ concat texts) ≡ 0 = ap length e in
    let one = length-append text (concat texts) in
    let two : length text ≡ length w.first + length w.second = ap length w.bytes_are ∙ length-append w.first w.second in
    absurd (omega arith)

no_texts : (texts : List (List ℕ)) (xs : List And) → AllZip WritesAnd texts xs → xs ≡ [] → texts ≡ []
no_texts [] xs write e = refl
no_texts (text ∷ texts) [] write e = absurd write
no_texts (text ∷ texts) (x ∷ xs) write e = absurd cc

both_none : (xs ys : List ℕ) → [] ≡ xs ++ ys → (xs ≡ []) × (ys ≡ [])
both_none [] ys e = (refl, sym e)
both_none (x ∷ xs) ys e = absurd cc

-- the four parts of a text
four : (a b c d : List ℕ) → a ++ b ++ c ++ d ≡ a ++ (b ++ (c ++ d))
four a b c d = append_assoc (a ++ b) c d ∙ append_assoc a b (c ++ d)

record FileParts (bytes : List ℕ) (aig : Aig) : Type 0 where
  graph : IsAig aig
  head : List ℕ
  outputs : List (List ℕ)
  ands : List (List ℕ)
  symbols : List (List ℕ)
  r0 : List ℕ
  r1 : List ℕ
  r2 : List ℕ
  r3 : List ℕ
  head_line : IsHeadLine form.Binary (variables_of aig) aig.inputs (length aig.outputs) (length aig.ands) head
  output_lines : AllZip WritesNumber outputs aig.outputs
  and_bytes : AllZip WritesAnd ands aig.ands
  symbol_lines : AreSymbolLines (aig.in_names, aig.out_names) symbols
  head_at : LineAt head bytes r0
  outputs_at : LinesAt outputs r0 r1
  ands_at : r1 ≡ concat ands ++ r2
  symbols_at : LinesAt symbols r2 r3
  end : EndAt r3

file_of : (bytes : List ℕ) (aig : Aig) → FileParts bytes aig → IsBinaryFile bytes aig
file_of bytes aig f = elim (written (f.head ∷ f.outputs) bytes f.r1 (f.r0, f.head_at, f.outputs_at)) [
  | inl is ↦ whole is (tail_text f.symbols f.r2 f.r3 f.symbols_at f.end)
  | inr (is, none) ↦ short is none
] where
  lines : List ℕ
  lines = in_lines (f.head ∷ f.outputs)

  whole : bytes ≡ in_lines (f.head ∷ f.outputs) ++ f.r1 → TailText f.symbols f.r2 → IsBinaryFile bytes aig
  whole is tail = record {
    graph = f.graph;
    head = f.head;
    outputs = f.outputs;
    ands = f.ands;
    symbols = f.symbols;
    comment = tail.comment;
    text = in_lines (f.head ∷ f.outputs) ++ concat f.ands ++ in_lines f.symbols ++ tail.comment;
    text_is = refl;
    bytes_are = elim tail.bytes_are [
      | inl all ↦ inl (is ∙ ap (λ (r : List ℕ). in_lines (f.head ∷ f.outputs) ++ r) (f.ands_at ∙ ap (λ (r : List ℕ). concat f.ands ++ r) all) ∙ sym (four (in_lines (f.head ∷ f.outputs)) (concat f.ands) (in_lines f.symbols) tail.comment))
      | inr (all, some) ↦ inr (
        ap (λ (b : List ℕ). b ++ 10 ∷ []) (is ∙ ap (λ (r : List ℕ). in_lines (f.head ∷ f.outputs) ++ r) f.ands_at)
            ∙ append_assoc (in_lines (f.head ∷ f.outputs)) (concat f.ands ++ f.r2) (10 ∷ [])
            ∙ ap (λ (r : List ℕ). in_lines (f.head ∷ f.outputs) ++ r) (append_assoc (concat f.ands) f.r2 (10 ∷ []) ∙ ap (λ (r : List ℕ). concat f.ands ++ r) all)
            ∙ sym (four (in_lines (f.head ∷ f.outputs)) (concat f.ands) (in_lines f.symbols) tail.comment),
        inr some,
      )
    ];
    head_line = f.head_line;
    output_lines = f.output_lines;
    and_bytes = f.and_bytes;
    symbol_lines = f.symbol_lines;
    comment_is = tail.is;
  }

  short : bytes ++ 10 ∷ [] ≡ in_lines (f.head ∷ f.outputs) → f.r1 ≡ [] → IsBinaryFile bytes aig
  short is none =
      let parts = both_none (concat f.ands) f.r2 (sym none ∙ f.ands_at) in
      let no_more = lines_none f.symbols f.r3 (subst (λ (r : List ℕ). LinesAt f.symbols r f.r3) parts.1 f.symbols_at) in
      record {
        graph = f.graph;
        head = f.head;
        outputs = f.outputs;
        ands = f.ands;
        symbols = [];
        comment = [];
        text = in_lines (f.head ∷ f.outputs) ++ concat f.ands ++ in_lines [] ++ [];
        text_is = refl;
        bytes_are = inr (is ∙ sym (append-nil (in_lines (f.head ∷ f.outputs))) ∙ sym (four (in_lines (f.head ∷ f.outputs)) (concat f.ands) [] [] ∙ ap (λ (t : List ℕ). in_lines (f.head ∷ f.outputs) ++ (t ++ [])) parts.0), inl (no_ands f.ands aig.ands f.and_bytes parts.0));
        head_line = f.head_line;
        output_lines = f.output_lines;
        and_bytes = f.and_bytes;
        symbol_lines = subst (AreSymbolLines (aig.in_names, aig.out_names)) no_more.0 f.symbol_lines;
        comment_is = inl refl;
      }

aig_of : ℕ → List And → List ℕ → Entries → Entries → Aig
aig_of inputs xs outputs ins outs = record { inputs = inputs; ands = xs; outputs = outputs; in_names = ins; out_names = outs }

pub many_count : {A : Type 0} (one : ℕ → List ℕ → Result (A × List ℕ) Stop) (count place : ℕ) (bytes : List ℕ) (x : List A × List ℕ) → many_at one place count bytes ≡ given x → length x.0 ≡ count
unfolding many_at
many_count {A} one zero place bytes x e = sym (ap (λ (p : List A × List ℕ). length p.0) (same_value ([], bytes) x e))
many_count {A} one (suc count) place bytes x e =
    let first = bind_ok (one place bytes) (λ first. many_at one (place + 1) count first.1 >>= λ others. Ok (first.0 ∷ others.0, others.1)) x e in
    let others = bind_ok (many_at one (place + 1) count first.0.1) (λ others. Ok (first.0.0 ∷ others.0, others.1)) x first.2 in
    let is = same_value (first.0.0 ∷ others.0.0, others.0.1) x others.2 in
    sym (ap (λ (p : List A × List ℕ). length p.0) is) ∙ ap suc (many_count one count (place + 1) first.0.1 others.0 others.1)

pub head_counts : (h : Header) (line : List ℕ) (o a : ℕ) → o ≡ h.outputs → a ≡ h.ands → fits_form form.Binary h ≡ true → IsHeadLine form.Binary h.variables h.inputs h.outputs h.ands line → IsHeadLine form.Binary (h.inputs + a) h.inputs o a line
head_counts h line o a outputs ands fits is =
    let sum : h.variables ≡ h.inputs + h.ands = eqb-true h.variables (h.inputs + h.ands) fits in
    let variables : h.variables ≡ h.inputs + a = sum ∙ ap (λ (n : ℕ). h.inputs + n) (sym ands) in
    subst (λ (n : ℕ). IsHeadLine form.Binary n h.inputs o a line) variables (subst (λ (n : ℕ). IsHeadLine form.Binary h.variables h.inputs n a line) (sym outputs) (subst (λ (n : ℕ). IsHeadLine form.Binary h.variables h.inputs h.outputs n line) (sym ands) is))

pub binary_read : (bytes : List ℕ) (aig : Aig) → graph_at bytes ≡ given aig → IsBinaryFile bytes aig
unfolding graph_at aig_of
binary_read bytes aig e =
    let head = bind_ok (header_at form.Binary bytes) (λ head. many_at (λ p. literal_at (2 * (head.0.inputs + head.0.ands) + 1)) 0 head.0.outputs head.1 >>= λ outputs. many_at (λ p. and_at (2 * (head.0.inputs + p + 1))) 0 head.0.ands outputs.1 >>= λ xs.
    symbols_at (length xs.1) (replicate head.0.inputs None, replicate head.0.outputs None) xs.1 >>= λ names. Ok (aig_of head.0.inputs xs.0 outputs.0 names.0 names.1)) aig e in
    let h : Header = head.0.0 in
    let outputs = bind_ok (many_at (λ p. literal_at (2 * (h.inputs + h.ands) + 1)) 0 h.outputs head.0.1) (λ outputs. many_at (λ p. and_at (2 * (h.inputs + p + 1))) 0 h.ands outputs.1 >>= λ xs.
    symbols_at (length xs.1) (replicate h.inputs None, replicate h.outputs None) xs.1 >>= λ names. Ok (aig_of h.inputs xs.0 outputs.0 names.0 names.1)) aig head.2 in
    let xs = bind_ok (many_at (λ p. and_at (2 * (h.inputs + p + 1))) 0 h.ands outputs.0.1) (λ xs. symbols_at (length xs.1) (replicate h.inputs None, replicate h.outputs None) xs.1 >>= λ names. Ok (aig_of h.inputs xs.0 outputs.0.0 names.0 names.1)) aig outputs.2 in
    let names = bind_ok (symbols_at (length xs.0.1) (replicate h.inputs None, replicate h.outputs None) xs.0.1) (λ names. Ok (aig_of h.inputs xs.0.0 outputs.0.0 names.0 names.1)) aig xs.2 in
    let made : Aig = aig_of h.inputs xs.0.0 outputs.0.0 names.0.0 names.0.1 in
    let is : made ≡ aig = same_value made aig names.2 in
    let line = head_read form.Binary bytes h head.0.1 head.1 in
    let output_count : length outputs.0.0 ≡ h.outputs = many_count (λ p. literal_at (2 * (h.inputs + h.ands) + 1)) h.outputs 0 head.0.1 outputs.0 outputs.1 in
    let and_count : length xs.0.0 ≡ h.ands = many_count (λ p. and_at (2 * (h.inputs + p + 1))) h.ands 0 outputs.0.1 xs.0 xs.1 in
    let literals = literals_read (2 * (h.inputs + h.ands) + 1) h.outputs 0 head.0.1 outputs.0.0 outputs.0.1 outputs.1 in
    let texts = ands_read h.inputs h.ands 0 outputs.0.1 xs.0.0 xs.0.1 xs.1 in
    let symbols = symbols_read (length xs.0.1) (replicate h.inputs None, replicate h.outputs None) names.0 xs.0.1 names.1 (omega arith) in
    file_of bytes aig (subst (FileParts bytes) is (record {
      graph = subst IsAig (sym is) (graph_ok bytes aig e);
      head = line.line;
      outputs = literals.lines;
      ands = texts.texts;
      symbols = symbols.lines;
      r0 = head.0.1;
      r1 = outputs.0.1;
      r2 = xs.0.1;
      r3 = symbols.rest;
      head_line = head_counts h line.line (length outputs.0.0) (length xs.0.0) output_count and_count line.fits line.is;
      output_lines = literals.write;
      and_bytes = texts.write;
      symbol_lines = lines_are h.inputs h.outputs symbols.lines names.0 symbols.one symbols.put;
      head_at = line.at;
      outputs_at = literals.at;
      ands_at = texts.parts;
      symbols_at = symbols.at;
      end = symbols.end;
    }))

-- ---- the whole file, written

some_symbols : (lines : List (List ℕ)) → ((at : ℕ) (line : List ℕ) → slice_get lines at ≡ Some line → (kind place : ℕ) × (name : List ℕ) × IsSymbolLine kind place name line) → AllSome lines
some_symbols [] each = tt
some_symbols (line ∷ lines) each =
    let e = each 0 line refl in
    let len : length line ≡ length (e.0 ∷ e.3.number ++ 32 ∷ e.2) = ap length e.3.line_is in
    (omega arith, some_symbols lines (λ at other is. each (suc at) other is))

pub symbols_some : (names : Entries × Entries) (lines : List (List ℕ)) → AreSymbolLines names lines → AllSome lines
symbols_some names lines are = some_symbols lines (λ at line is. (let e = are.each at line is in (e.0, e.1, e.2, e.4)))

pub head_some : (variables inputs outputs ands : ℕ) (line : List ℕ) → IsHeadLine form.Binary variables inputs outputs ands line → 0 < length line
head_some variables inputs outputs ands line h = (let len = ap length h.line_is in omega arith)

record Threads (bytes : List ℕ) (aig : Aig) (head : List ℕ) (outputs ands symbols : List (List ℕ)) : Type 0 where
  r0 : List ℕ
  r1 : List ℕ
  r2 : List ℕ
  head_at : LineAt head bytes r0
  outputs_at : LinesAt outputs r0 r1
  ands_at : r1 ≡ concat ands ++ r2
  tail : TailAt symbols r2

some_text : (xs : List ℕ) → (xs ≡ []) ⊎ (0 < length xs)
some_text [] = inl refl
some_text (x ∷ xs) = inr (omega arith)

no_lines : (lines : List (List ℕ)) (comment : List ℕ) → in_lines lines ++ comment ≡ [] → (lines ≡ []) × (comment ≡ [])
no_lines [] comment e = (refl, e)
no_lines (line ∷ lines) comment e = (
    let len = ap length e in
    let one = length-append (line ++ 10 ∷ in_lines lines) comment in
    let two = length-append line (10 ∷ in_lines lines) in
    absurd (omega arith)
    )

threads : (bytes : List ℕ) (aig : Aig) (f : IsBinaryFile bytes aig) → Threads bytes aig f.head f.outputs f.ands f.symbols
threads bytes aig f = elim f.bytes_are [
  | inl is ↦ closed is
  | inr (is, last) ↦ elim (some_text (in_lines f.symbols ++ f.comment)) [
    | inl none ↦ no_tail is last none
    | inr some ↦ ajar is some
  ]
] where
  first : AllSome (f.head ∷ f.outputs)
  first = (head_some (variables_of aig) aig.inputs (length aig.outputs) (length aig.ands) f.head f.head_line, all_some f.outputs aig.outputs f.output_lines)

  symbols : AllSome f.symbols
  symbols = symbols_some (aig.in_names, aig.out_names) f.symbols f.symbol_lines

  from : (r2 : List ℕ) → bytes ≡ in_lines (f.head ∷ f.outputs) ++ (concat f.ands ++ r2) → TailAt f.symbols r2 → Threads bytes aig f.head f.outputs f.ands f.symbols
  from r2 is tail =
      let at = subst (λ (b : List ℕ). LinesAt (f.head ∷ f.outputs) b (concat f.ands ++ r2)) (sym is) (lines_of (f.head ∷ f.outputs) (concat f.ands ++ r2) first) in
      record { r0 = at.0; r1 = concat f.ands ++ r2; r2 = r2; head_at = at.1; outputs_at = at.2; ands_at = refl; tail = tail }

  closed : bytes ≡ f.text → Threads bytes aig f.head f.outputs f.ands f.symbols
  closed is =
      let whole = is ∙ f.text_is ∙ four (in_lines (f.head ∷ f.outputs)) (concat f.ands) (in_lines f.symbols) f.comment in
      from (in_lines f.symbols ++ f.comment) whole (tail_at f.symbols f.comment (in_lines f.symbols ++ f.comment) symbols f.comment_is refl)

  ajar : bytes ++ 10 ∷ [] ≡ f.text → 0 < length (in_lines f.symbols ++ f.comment) → Threads bytes aig f.head f.outputs f.ands f.symbols
  ajar is some =
      let front = in_lines (f.head ∷ f.outputs) ++ concat f.ands in
      let whole : bytes ++ 10 ∷ [] ≡ front ++ (in_lines f.symbols ++ f.comment) = is ∙ f.text_is ∙ append_assoc front (in_lines f.symbols) f.comment in
      let l = last_byte 10 bytes front (in_lines f.symbols ++ f.comment) whole some in
      from l.before (l.bytes_are ∙ append_assoc (in_lines (f.head ∷ f.outputs)) (concat f.ands) l.before) (tail_at_open f.symbols f.comment l.before symbols f.comment_is l.back_is)

  no_tail : bytes ++ 10 ∷ [] ≡ f.text → (aig.ands ≡ []) ⊎ (0 < length (in_lines f.symbols ++ f.comment)) → in_lines f.symbols ++ f.comment ≡ [] → Threads bytes aig f.head f.outputs f.ands f.symbols
  no_tail is last none = elim last [
    | inr some ↦ (let same = ap length none in absurd (omega arith))
    | inl no_and ↦ (
        let texts = no_texts f.ands aig.ands f.and_bytes no_and in
        let bare = no_lines f.symbols f.comment none in
        let text : bytes ++ 10 ∷ [] ≡ in_lines (f.head ∷ f.outputs) =
        is ∙ f.text_is ∙ four (in_lines (f.head ∷ f.outputs)) (concat f.ands) (in_lines f.symbols) f.comment
        ∙ ap (λ (t : List ℕ). in_lines (f.head ∷ f.outputs) ++ (concat f.ands ++ t)) none
        ∙ ap (λ (t : List (List ℕ)). in_lines (f.head ∷ f.outputs) ++ (concat t ++ [])) texts
        ∙ append-nil (in_lines (f.head ∷ f.outputs)) in
        let at = lines_of_open bytes f.head f.outputs first text in
        record {
          r0 = at.0;
          r1 = [];
          r2 = [];
          head_at = at.1;
          outputs_at = at.2;
          ands_at = ap (λ (t : List (List ℕ)). concat t ++ []) (sym texts);
          tail = subst (λ (s : List (List ℕ)). TailAt s []) (sym bare.0) (record { rest = []; at = refl; end = inl refl });
        }
        )
  ]

header_for : Aig → Header
header_for aig = record { variables = variables_of aig; inputs = aig.inputs; outputs = length aig.outputs; ands = length aig.ands }

pub binary_written : (bytes : List ℕ) (aig : Aig) → IsBinaryFile bytes aig → graph_at bytes ≡ given aig
unfolding graph_at header_for
binary_written bytes aig f =
    let t = threads bytes aig f in
    let graph = f.graph in
    let h = header_for aig in
    let fits : fits_form form.Binary h ≡ true = eq-eqb (variables_of aig) (aig.inputs + length aig.ands) refl in
    let head : header_at form.Binary bytes ≡ given (h, t.r0) = head_written form.Binary bytes h t.r0 f.head f.head_line t.head_at graph.size fits in
    let outputs : many_at (λ p. literal_at (2 * (aig.inputs + length aig.ands) + 1)) 0 (length aig.outputs) t.r0 ≡ given (aig.outputs, t.r1) =
    literals_written (2 * (aig.inputs + length aig.ands) + 1) f.outputs aig.outputs 0 t.r0 t.r1 f.output_lines t.outputs_at (λ k d lt. (let low = graph.outputs k d lt in omega arith)) in
    let xs : many_at (λ p. and_at (2 * (aig.inputs + p + 1))) 0 (length aig.ands) t.r1 ≡ given (aig.ands, t.r2) =
    ap (many_at (λ p. and_at (2 * (aig.inputs + p + 1))) 0 (length aig.ands)) t.ands_at
    ∙ ands_written aig.inputs f.ands aig.ands 0 t.r2 f.and_bytes (λ k one is. (let at : k ≡ 0 + k = omega arith in subst (λ (p : ℕ). IsAndAt aig.inputs p one) at (graph.ands k one is))) in
    let put = lines_put aig.inputs (length aig.outputs) f.symbols (aig.in_names, aig.out_names) graph.in_names graph.out_names f.symbol_lines in
    let one = lines_one f.symbols (aig.in_names, aig.out_names) f.symbol_lines.each in
    let names : symbols_at (length t.r2) (replicate aig.inputs None, replicate (length aig.outputs) None) t.r2 ≡ given (aig.in_names, aig.out_names) =
    symbols_written f.symbols (length t.r2) (replicate aig.inputs None, replicate (length aig.outputs) None) (aig.in_names, aig.out_names) t.r2 t.tail.rest t.tail.at t.tail.end put one (omega arith) in
    rw (head, outputs, xs, names) refl
