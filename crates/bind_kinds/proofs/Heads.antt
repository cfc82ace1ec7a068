-- The ports of a head that declares them.
use Rattle.std.proofs.Common.{◌≡◌, ℕ, List, map, Option, Some, None, sym, ◌∙◌, ap, Bor}
use Rattle.std.specs.Prelude.{slice_get}
use Rattle.std.specs.Option.{option_copied, option_map}
use Rattle.std.proofs.lemmas.Option.{slice_get-map}
use Rattle.verilog_tree.specs.declared.tree.Head.{Head}
use Rattle.verilog_tree.specs.declared.tree.Head.TheVariants as heads
use Rattle.verilog_tree.specs.declared.tree.HeadPort.{HeadPort}
use Rattle.verilog_tree.specs.Views.{view_head, view_port}
use Rattle.bind_sites.specs.Sites.{port_names, listed_port}

at : (head : Head) (ports : List HeadPort) (place : ℕ) → head ≡ heads.Full ports → slice_get (port_names (view_head head)) place ≡ option_map listed_port (option_map view_port (slice_get ports place))
at head ports place is =
    ap (λ (h : Head). slice_get (port_names (view_head h)) place) is ∙ slice_get-map listed_port (map view_port ports) place ∙ ap (option_map listed_port) (slice_get-map view_port ports place)

pub full_some : (head : Head) (ports : List HeadPort) (place : ℕ) (r : Option (Bor HeadPort)) (port : Bor HeadPort) (name : List ℕ) → head ≡ heads.Full ports → option_copied r ≡ slice_get ports place → r ≡ Some port
    → name ≡ listed_port (view_port port.now) → Some name ≡ slice_get (port_names (view_head head)) place
full_some head ports place r port name is get some named =
    ap Some named ∙ ap (λ (o : Option HeadPort). option_map listed_port (option_map view_port o)) (sym (ap option_copied some) ∙ get) ∙ sym (at head ports place is)

pub full_none : (head : Head) (ports : List HeadPort) (place : ℕ) (r : Option (Bor HeadPort)) → head ≡ heads.Full ports → option_copied r ≡ slice_get ports place → r ≡ None → None ≡ slice_get (port_names (view_head head)) place
full_none head ports place r is get none =
    ap (λ (o : Option HeadPort). option_map listed_port (option_map view_port o)) (sym (ap option_copied none) ∙ get) ∙ sym (at head ports place is)
