-- The refusal of a stage's fault. A stage that wants memory makes the refusal for want of memory.
use Rattle.verilog_lex.specs.declared.token.LexFault.{LexFault}
use Rattle.verilog_lex.specs.declared.token.LexWhy.{LexWhy}
use Rattle.verilog_lex.specs.declared.token.LexWhy.TheVariants as why
use Rattle.bind_forms.specs.declared.fault.BindFault.{BindFault}
use Rattle.bind_forms.specs.declared.fault.BindFault.TheVariants as bind
use Rattle.flattener.specs.declared.fault.FlatFault.{FlatFault}
use Rattle.flattener.specs.declared.fault.FlatFault.TheVariants as flat
use Rattle.loading.specs.declared.refusal.Refusal.{Refusal}
use Rattle.loading.specs.declared.refusal.Refusal.TheVariants as refusal

abbrev pub lex_refusal_by : LexFault → LexWhy → Refusal
lex_refusal_by fault why.Memory = refusal.Memory
lex_refusal_by fault _ = refusal.Lex fault

abbrev pub lex_refusal : LexFault → Refusal
lex_refusal fault = lex_refusal_by fault fault.why

abbrev pub bind_refusal : BindFault → Refusal
bind_refusal bind.Memory = refusal.Memory
bind_refusal fault = refusal.Bind fault

abbrev pub flat_refusal : FlatFault → Refusal
flat_refusal flat.Memory = refusal.Memory
flat_refusal fault = refusal.Flat fault
