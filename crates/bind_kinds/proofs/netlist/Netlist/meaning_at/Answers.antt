use Rattle.std.proofs.Common.{◌∙◌, sym, ap}
use Rattle.std.specs.Option.{option_copied}
use Rattle.bind_kinds.specs.Netlist.{setting_of, AreMeaningsOf}
use Rattle.bind_kinds.proofs.Ports.{found_in_first, meant_is, not_lacking}
use Rattle.bind_kinds.proofs.netlist.Netlist.meaning_at.Goals as goal

pub returns-in_err-get : goal.returns-in_err-get
returns-in_err-get c = λ all here has there.
    let setting = setting_of c.args.self.now in
    absurd (found_in_first (AreMeaningsOf setting) setting.modules c.args.self.now.meanings.now c.args.at has.owner c.requires.meanings has.there c.in_err-get.ensures.lookup.3)

pub returns-in_err-get-2 : goal.returns-in_err-get-2
returns-in_err-get-2 c = λ all here has there.
    let setting = setting_of c.args.self.now in
    let found = c.in_ok-get.ensures.lookup in
    absurd (not_lacking setting c.args.self.now.meanings.now c.args.at c.in_ok-get.field-0.now c.args.site c.requires.meanings found.3.0 found.1 (sym c.get-2.ensures ∙ ap option_copied c.in_err-get-2.was) all here has there)

pub returns : goal.returns
returns c =
    let setting = setting_of c.args.self.now in
    let found = c.in_ok-get.ensures.lookup in
    meant_is setting c.args.self.now.meanings.now c.args.at c.in_ok-get.field-0.now c.args.site c.in_ok-get-2.field-0.now c.requires.meanings found.3.0 found.1 (sym c.get-2.ensures ∙ ap option_copied c.in_ok-get-2.was)
