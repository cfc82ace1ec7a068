use Rattle.std.proofs.Common.{◌≡◌, ◌-◌, ℕ, length, sym, ◌∙◌, subst, ap, arith}
use Rattle.std.proofs.lemmas.List.{length-map}
use Rattle.verilog_tree.specs.Words.{word_at, words}
use Rattle.verilog_tree.specs.Fault.{IsParseFault}
use Rattle.verilog_tree.specs.Views.{view_source}
use Rattle.verilog_tree.proofs.Tokens.{all_tokens, spelled_tree}
use Rattle.verilog_tree.proofs.Whole.{source_found, source_again, source_fault, clash, ok_is}
use Rattle.verilog_tree.proofs.parsing.parse.Goals as goal

pub read_source-requires : goal.read_source-requires
read_source-requires c = all_tokens c.args.bytes.now 0 c.as_slice-tokens.result.now c.tokens_are_words.ensures.spelled c.tokens_are_words.ensures.placed

pub overflow_cast-result : goal.overflow_cast-result
overflow_cast-result c = omega (arith, c.tokens_are_words.ensures.few, c.saturating_sub-at.ensures)

pub returns-in-Ok-clause-found : goal.returns-in-Ok-clause-found
returns-in-Ok-clause-found c = source_found (words c.args.bytes.now c.args.tokens.now) (view_source c.in-Ok.tree) (rw c.as_slice-tokens.ensures at c.in-Ok.ensures)

pub returns-in-Ok-clause-only : goal.returns-in-Ok-clause-only
returns-in-Ok-clause-only c = λ tree s. ok_is (view_source c.in-Ok.tree) tree (sym (rw c.as_slice-tokens.ensures at c.in-Ok.ensures) ∙ source_again (words c.args.bytes.now c.args.tokens.now) tree s)

pub returns-in-Err-Left-clause-only : goal.returns-in-Err-Left-clause-only
returns-in-Err-Left-clause-only c = λ tree s.
    let e = rw (c.in-Err-Left.field-0-is, c.as_slice-tokens.ensures) at c.in-Err-Left.ensures in
    absurd (clash (words c.args.bytes.now c.args.tokens.now) tree _ e s)

pub returns-in-Err-Left-clause-fault : goal.returns-in-Err-Left-clause-fault
returns-in-Err-Left-clause-fault c =
    let e = rw (c.in-Err-Left.field-0-is, c.as_slice-tokens.ensures) at c.in-Err-Left.ensures in
    let ts = words c.args.bytes.now c.args.tokens.now in
    let n : length c.as_slice-tokens.result.now ≡ length (words c.args.bytes.now c.args.tokens.now) = ap length c.as_slice-tokens.ensures ∙ sym (length-map c.args.tokens.now (word_at c.args.bytes.now)) in
    subst (λ (at : ℕ). IsParseFault (words c.args.bytes.now c.args.tokens.now) at) (ap (λ (k : ℕ). k - c.in-Err-Left.left) (sym n) ∙ sym c.saturating_sub-at.ensures) (source_fault (words c.args.bytes.now c.args.tokens.now) c.in-Err-Left.left e)

pub returns-in-Ok-clause-formed : goal.returns-in-Ok-clause-formed
returns-in-Ok-clause-formed c =
    spelled_tree c.args.bytes.now c.as_slice-tokens.result.now (view_source c.in-Ok.tree) c.tokens_are_words.ensures.spelled (source_found (words c.args.bytes.now c.as_slice-tokens.result.now) (view_source c.in-Ok.tree) c.in-Ok.ensures)
