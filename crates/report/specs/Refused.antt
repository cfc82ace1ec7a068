-- The line of a netlist that is refused. Numbers are decimal, names stand as they are, and a space parts each from what is before it.
use Rattle.std.specs.Prelude.{ℕ, List, [], ◌++◌, codes, decimal}
use Rattle.std.specs.List.{flat_map}
use Rattle.verilog_lex.specs.declared.token.LexWhy.{LexWhy}
use Rattle.verilog_lex.specs.declared.token.LexWhy.TheVariants as why
use Rattle.bind_forms.specs.declared.fault.BindFault.{BindFault}
use Rattle.bind_forms.specs.declared.fault.BindFault.TheVariants as bind
use Rattle.flattener.specs.declared.fault.FlatFault.{FlatFault}
use Rattle.flattener.specs.declared.fault.FlatFault.TheVariants as flat
use Rattle.loading.specs.declared.refusal.Refusal.{Refusal}
use Rattle.loading.specs.declared.refusal.Refusal.TheVariants as refusal

-- a name, and a number, behind a space
abbrev pub spaced : List ℕ → List ℕ
spaced name = codes " " ++ name

abbrev pub counted : ℕ → List ℕ
counted number = codes " " ++ decimal number

-- names, each behind a space
abbrev pub all_spaced : List (List ℕ) → List ℕ
all_spaced names = flat_map spaced names

-- Want of memory stands in no line; its word here is empty.
abbrev pub lex_words : LexWhy → List ℕ
lex_words why.BadByte = codes "bad byte"
lex_words why.UnendedComment = codes "unended comment"
lex_words why.UnendedAttribute = codes "unended attribute"
lex_words why.EmptyEscape = codes "empty escape"
lex_words why.Directive = codes "directive"
lex_words why.BigNumber = codes "big number"
lex_words why.Memory = []

-- a width that is too great is a limit
abbrev pub bind_words : BindFault → List ℕ
bind_words (bind.DuplicateName first second) = codes "bind duplicate" ++ spaced first ++ spaced second
bind_words bind.NoTop = codes "bind no top"
bind_words (bind.TwoTops first second) = codes "bind two tops" ++ spaced first ++ spaced second
bind_words (bind.NoSuchModule name) = codes "bind no module" ++ spaced name
bind_words (bind.Recursive names) = codes "bind recursive" ++ all_spaced names
bind_words (bind.UnknownPort name) = codes "bind port" ++ spaced name
bind_words (bind.PortTwice name) = codes "bind port twice" ++ spaced name
bind_words (bind.TooMany have want) = codes "bind too many" ++ counted have ++ counted want
bind_words (bind.NoSuchName name) = codes "bind no name" ++ spaced name
bind_words (bind.Range name) = codes "bind range" ++ spaced name
bind_words (bind.Width have want) = codes "bind width" ++ counted have ++ counted want
bind_words (bind.WidthLimit width) = codes "limit width" ++ counted width
bind_words bind.Memory = []

abbrev pub flat_words : FlatFault → List ℕ
flat_words (flat.NestingLimit count) = codes "limit nesting" ++ counted count
flat_words (flat.CellLimit count) = codes "limit cells" ++ counted count
flat_words (flat.WireLimit count) = codes "limit wires" ++ counted count
flat_words (flat.TwoDrivers wire first second) = codes "flat two drivers" ++ spaced wire ++ spaced first ++ spaced second
flat_words (flat.AliasLoop wires) = codes "flat alias loop" ++ all_spaced wires
flat_words (flat.NoDriver pin) = codes "flat no driver" ++ spaced pin
flat_words flat.Memory = []

abbrev pub refusal_words : Refusal → List ℕ
refusal_words (refusal.Lex fault) = codes "lex" ++ counted fault.offset ++ spaced (lex_words fault.why)
refusal_words (refusal.Parse place) = codes "parse" ++ counted place
refusal_words (refusal.Bind fault) = bind_words fault
refusal_words (refusal.Flat fault) = flat_words fault
refusal_words refusal.Memory = []

-- The whole line.
abbrev pub refusal_line : Refusal → List ℕ
refusal_line why = codes "refused " ++ refusal_words why ++ codes "\n"
