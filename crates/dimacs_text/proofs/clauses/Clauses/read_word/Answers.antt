use Rattle.std.proofs.Common.{◌≡◌, ◌∙◌, ap, sym, arith, Ok, Err}
use Rattle.std.specs.Int.{w64}
use Rattle.std.proofs.lemmas.Int.{to_z-of_z}
use Rattle.dimacs_text.specs.Reading.{fault}
use Rattle.dimacs_text.specs.declared.fault.TextWhy.TheVariants.{Range}
use Rattle.dimacs_text.proofs.WordSays.{says_nothing, says_zero, says_beyond, says_literal}
use Rattle.dimacs_text.proofs.clauses.Clauses.read_word.Goals as goal

pub returns-in_default-clause-err : goal.returns-in_default-clause-err
returns-in_default-clause-err c apart =
    says_nothing c.args.vars c.args.self.now c.args.start c.args.word.now (sym c.in_default.is ∙ c.read_signed.ensures)

pub returns-then-number-vars-clause-err : goal.returns-then-number-vars-clause-err
returns-then-number-vars-clause-err c apart =
    says_beyond c.args.vars c.args.self.now c.args.start c.args.word.now c.in-Some.number c.in-Some.ensures c.if-number-vars.true
    ∙ ap (λ z. Err (fault c.args.start (Range z))) (sym (to_z-of_z w64 c.whole.result c.whole.ensures.fits ∙ c.whole.ensures.whole))

pub returns-then-number-eq0-clause-ok : goal.returns-then-number-eq0-clause-ok
returns-then-number-eq0-clause-ok c =
    says_zero c.args.vars c.args.self.now c.args.start c.args.word.now c.in-Some.number c.in-Some.ensures c.if-number-eq0.true
    ∙ ap (λ said. Ok said) (sym c.in_ok-close.ensures)

pub returns-clause-ok : goal.returns-clause-ok
returns-clause-ok c =
    says_literal c.args.vars c.args.self.now c.args.start c.args.word.now c.in-Some.number c.in-Some.ensures c.if-number-eq0.false c.if-number-vars.false
    ∙ ap (λ said. Ok said) (sym c.in_ok-take.ensures)
