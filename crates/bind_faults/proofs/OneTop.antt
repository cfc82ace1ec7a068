-- The top: there is one at most, and the names of modules.
use Rattle.std.proofs.Common.{◌≡◌, ◌∙◌, ◌<◌, inl, inr, ℕ, List, Option, Some, None, map, length, get_or, sym, ap, subst, arith}
use Rattle.std.specs.Prelude.{slice_get}
use Rattle.std.specs.Option.{option_map}
use Rattle.std.proofs.lemmas.Bool.{cases_lt}
use Rattle.std.proofs.lemmas.Option.{slice_get_within, slice_get-map, slice_get-get_or, same_Some}
use Rattle.std.proofs.lemmas.List.{length-map}
use Rattle.verilog_tree.specs.declared.tree.Module.{Module as CodeModule}
use Rattle.verilog_tree.specs.Trees.{Module}
use Rattle.verilog_tree.specs.Views.{view_module}
use Rattle.bind_hierarchy.specs.Modules as hierarchy
use Rattle.bind_forms.specs.Modules.{Setting, IsModuleNamed, MeansModule, IsTopBy, IsTop, IsReached}

-- a name means one module at most
one_module : (setting : Setting) (name : List ℕ) (a b : ℕ) → MeansModule setting name a → MeansModule setting name b → a ≡ b
one_module setting name a b m n = elim (cases_lt a b) [
  | inl low ↦ absurd (n.1 a low m.0)
  | inr high ↦ elim (cases_lt b a) [
    | inl low ↦ absurd (m.1 b low n.0)
    | inr same ↦ omega (arith, high, same)
  ]
]

one_by : (setting : Setting) (top : Option (List ℕ)) (a b : ℕ) → IsTopBy setting top a → IsTopBy setting top b → a ≡ b
one_by setting None a b f g = sym (f.1 b g.0)
one_by setting (Some name) a b f g = one_module setting name a b f g

pub one_top : (setting : Setting) (a b : ℕ) → IsTop setting a → IsTop setting b → a ≡ b
one_top setting a b f g = one_by setting setting.top a b f g

top_by_below : (setting : Setting) (top : Option (List ℕ)) (at : ℕ) → IsTopBy setting top at → at < length setting.modules
top_by_below setting None at f = f.0.0
top_by_below setting (Some name) at f = slice_get_within setting.modules at f.0.0 f.0.1

pub top_below : (setting : Setting) (at : ℕ) → IsTop setting at → at < length setting.modules
top_below setting at f = top_by_below setting setting.top at f

pub top_reached : (setting : Setting) (top : ℕ) → IsTop setting top → IsReached setting top
top_reached setting top is = record { top = top; top_is = is; reaches = hierarchy.Top }

-- ---- names of modules

pub one_name : (setting : Setting) (at : ℕ) (a b : List ℕ) → IsModuleNamed setting at a → IsModuleNamed setting at b → a ≡ b
one_name setting at a b p q = sym p.2 ∙ (ap (λ (m : Module). m.name) (same_Some p.0 q.0 (sym p.1 ∙ q.1)) ∙ q.2)

pub named_by : (modules : List CodeModule) (at : ℕ) (holder : CodeModule) (name : List ℕ) → slice_get modules at ≡ Some holder → name ≡ holder.name → hierarchy.IsModuleNamed (map view_module modules) at name
named_by modules at holder name is same = (view_module holder, slice_get-map view_module modules at ∙ ap (option_map view_module) is, sym same)

-- the module that the code reads
pub named_at : (modules slice : List CodeModule) (at : ℕ) (default : CodeModule) (name : List ℕ) → slice ≡ modules → at < length (map view_module modules) → name ≡ (get_or slice at default).name → hierarchy.IsModuleNamed (map view_module modules) at name
named_at modules slice at default name same l is =
    let near : at < length slice = rw same (omega (arith, l, length-map modules view_module)) in
    named_by modules at (get_or slice at default) name (subst (λ (ms : List CodeModule). slice_get ms at ≡ Some (get_or slice at default)) same (slice_get-get_or slice at default near)) is
