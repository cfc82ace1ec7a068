-- Lines of symbols that break, and what a reader answers.
use Rattle.std.proofs.Common.{◌≡◌, ◌≢◌, ◌⊎◌, ◌∙◌, inl, inr, ◌<◌, ◌≤◌, ◌+◌, ℕ, Bool, true, false, zero, suc, refl, ap, sym, subst, arith, List, [], ◌∷◌, length, length-append, length-drop, take, drop, Option, None, Some, Err}
use Rattle.std.specs.Prelude.{replicate}
use Rattle.std.specs.Str.{bytes_eq}
use Rattle.std.proofs.lemmas.Slice.Eq.{bytes_eq-Decides}
use Rattle.aiger_parts.specs.declared.fault.AigerWhy.{AigerWhy}
use Rattle.aiger_parts.specs.declared.fault.AigerWhy.TheVariants as why
use Rattle.aiger_parts.specs.Reading.{fault}
use Rattle.aiger_parts.specs.Symbols.{Entries, line_length, with_line, line_at, ends_symbols, symbols_at}
use Rattle.aiger_read.specs.Spelled.{IsSymbolLine}
use Rattle.aiger_read.specs.Broken.{IsFree, AreLines, BreaksSymbols, HasSymbols}
use Rattle.aiger_read.proofs.WellFormed.{given}
use Rattle.aiger_read.proofs.FileLines.{LineAt, LinesAt, lines_of, lines_none, line_is, line_behind, one_line, take_front}
use Rattle.aiger_read.proofs.SymbolFiles.{Put, AllPut, AllOneLine, EndAt, line_read, no_bytes, symbol_goes, goes_on, written_step, symbols_written}
use Rattle.aiger_read.proofs.SymbolSets.{lines_put, lines_one}
use Rattle.aiger_read.proofs.BinaryFiles.{symbols_some}
use Rattle.aiger_read.proofs.AsciiFiles.{le_self}
use Rattle.aiger_read.proofs.StopLines.{StopsAt}
use Rattle.aiger_read.proofs.StopHead.{lines_at}

-- a line that is no symbol of what is free puts none
none_put : (names : Entries × Entries) (line : List ℕ) → AllOneLine (line ∷ []) → ((kind place : ℕ) (name : List ℕ) → IsFree names kind place → IsSymbolLine kind place name line → ⊥) → with_line names line ≡ None
none_put names line one none = go (with_line names line) refl where
  free : (kind place : ℕ) (name : List ℕ) (next : Entries × Entries) → Put names kind place name next → IsFree names kind place
  free kind place name next (inl (k, f, is)) = inl (k, f)
  free kind place name next (inr (k, f, is)) = inr (k, f)

  go : (o : Option (Entries × Entries)) → with_line names line ≡ o → with_line names line ≡ None
  go None is = is
  go (Some next) is =
      let r = line_read names next line one.0 is in
      absurd (none r.kind r.place r.name (free r.kind r.place r.name next r.put) r.is)

no_end : (line : List ℕ) → line ≢ 99 ∷ [] → bytes_eq line (99 ∷ []) ≡ false
no_end line ne = go (bytes_eq line (99 ∷ [])) refl where
  go : (t : Bool) → bytes_eq line (99 ∷ []) ≡ t → bytes_eq line (99 ∷ []) ≡ false
  go false is = is
  go true is = absurd (ne ((bytes_eq-Decides line (99 ∷ [])).0 is))

bad_step : (n : ℕ) (names : Entries × Entries) (bytes : List ℕ) → ends_symbols bytes ≡ false → with_line names (take (line_length bytes) bytes) ≡ None → symbols_at (suc n) names bytes ≡ Err (fault why.Symbol bytes)
unfolding symbols_at line_at
bad_step n names bytes goes none = rw (goes, none) refl

-- lines that put their symbols, and then one that does not
lines_stop : (lines : List (List ℕ)) (n : ℕ) (names after : Entries × Entries) (bytes last : List ℕ) → LinesAt lines bytes last → AllPut names lines after → AllOneLine lines → length bytes ≤ n → 0 < length last → ends_symbols last ≡ false → with_line after (take (line_length last) last) ≡ None
    → symbols_at n names bytes ≡ Err (fault why.Symbol last)
lines_stop [] zero names after bytes last at put one le some goes none = (let same = ap length at in absurd (omega arith))
lines_stop [] (suc n) names after bytes last at put one le some goes none =
    ap (symbols_at (suc n) names) at ∙ ap (λ (e : Entries × Entries). symbols_at (suc n) e last) put ∙ bad_step n after last goes none
lines_stop (line ∷ lines) zero names after bytes last (next, line_is_at, others) put one le some goes none =
    let empty = no_bytes bytes le in
    let nothing = lines_none (line ∷ lines) last (next, subst (λ (b : List ℕ). LineAt line b next) empty line_is_at, others) in
    let same = ap length nothing.1 in
    absurd (omega arith)
lines_stop (line ∷ lines) (suc n) names after bytes last (behind, at, others) (next, is, more) one le some goes none =
    let len : line_length bytes ≡ length line = ap line_length at.parts ∙ line_is line at.tail behind one.0 at.ends in
    let front : take (line_length bytes) bytes ≡ line = ap (λ (k : ℕ). take k bytes) len ∙ ap (take (length line)) at.parts ∙ take_front line at.tail in
    let back : drop (line_length bytes + 1) bytes ≡ behind = ap (λ (k : ℕ). drop (k + 1) bytes) len ∙ ap (drop (length line + 1)) at.parts ∙ line_behind line at.tail behind at.ends in
    let long : length bytes ≡ length line + length at.tail = ap length at.parts ∙ length-append line at.tail in
    let some_text = at.some in
    let step : ends_symbols bytes ≡ false = goes_on bytes (omega arith) (ap (λ (l : List ℕ). bytes_eq l (99 ∷ [])) front ∙ symbol_goes names next line is) in
    let short : length behind ≤ n = (let d = length-drop (line_length bytes + 1) bytes in let same = ap length back in omega arith) in
    written_step n names next bytes step (ap (with_line names) front ∙ is) ∙ ap (symbols_at n next) back ∙ lines_stop lines n next after behind last others more one.1 short some goes none

pub symbols_stop : (inputs outputs : ℕ) (bytes rest : List ℕ) (offset : ℕ) (cause : AigerWhy) → BreaksSymbols inputs outputs bytes rest offset cause → StopsAt (symbols_at (length rest) (replicate inputs None, replicate outputs None) rest) bytes offset cause
symbols_stop inputs outputs bytes rest offset cause b =
    let put = lines_put inputs outputs b.symbols b.names b.ins b.outs b.symbol_lines in
    let one = lines_one b.symbols b.names b.symbol_lines.each in
    let at = subst (λ (r : List ℕ). LinesAt b.symbols r b.last) (sym b.parts) (lines_of b.symbols b.last (symbols_some b.names b.symbols b.symbol_lines)) in
    let goes = goes_on b.last b.some (no_end (take (line_length b.last) b.last) b.no_comment) in
    let none = none_put b.names (take (line_length b.last) b.last) (one_line b.last, tt) b.no_symbol in
    let there = b.offset_is in (
      fault why.Symbol b.last,
      lines_stop b.symbols (length rest) (replicate inputs None, replicate outputs None) b.names rest b.last at put one (le_self (length rest)) b.some goes none,
      b.cause_is,
      omega arith,
    )

-- ---- lines of symbols that are right

pub symbols_given : (inputs outputs : ℕ) (rest : List ℕ) → HasSymbols inputs outputs rest → (names : Entries × Entries) × (symbols_at (length rest) (replicate inputs None, replicate outputs None) rest ≡ given names)
symbols_given inputs outputs rest h =
    let put = lines_put inputs outputs h.symbols h.names h.ins h.outs h.symbol_lines in
    let one = lines_one h.symbols h.names h.symbol_lines.each in
    let at = lines_at h.symbols rest h.last (symbols_some h.names h.symbols h.symbol_lines) h.lines_are in
    (h.names, symbols_written h.symbols (length rest) (replicate inputs None, replicate outputs None) h.names rest h.last at (ends h.end) put one (le_self (length rest)))
  where
    ends : (h.last ≡ []) ⊎ ((more : List ℕ) × AreLines ((99 ∷ []) ∷ []) h.last more) → EndAt h.last
    ends (inl none) = inl none
    ends (inr (more, lines)) = (let made = lines_at ((99 ∷ []) ∷ []) h.last more (omega arith, tt) lines in inr (made.0, made.1))
