use Rattle.std.proofs.Common.{◌≡◌, ◌∙◌, ◌-◌, ℕ, List, [], ◌∷◌, ◌++◌, Some, length, subst, sym, rules, true, false}
use Rattle.std.specs.List.{Contains}
use Rattle.std.specs.Prelude.{slice_get}
use Rattle.std.proofs.lemmas.Option.{get_or_from_slice_get}
use Rattle.graph_rings.proofs.Dropping.{popped}
use Rattle.graph_rings.proofs.Looking.{left_one}
use Rattle.graph_rings.proofs.Results.{greatest_last}
use Rattle.graph_rings.proofs.Tops.{top_of}
use Rattle.graph_rings.proofs.search.Search.leave.Goals as goal

pub returns-clause-search : goal.returns-clause-search
returns-clause-search c = λ start s.
    let stack = c.args.self.now.stack.items in
    let bases = c.args.self.now.bases.items in
    let is : stack ≡ c.pop.new.self.items ++ c.args.place ∷ [] = popped stack c.pop.new.self.items c.pop.result c.args.place c.pop.ensures.items (search rules) (get_or_from_slice_get stack (length stack - 1) c.args.place 0 c.requires.top.last) in
    let none : Contains bases c.args.place → ⊥ = λ (h : Contains bases c.args.place).
    let last : slice_get bases (length bases - 1) ≡ Some c.args.place = greatest_last bases c.args.place s.bases_rise h (λ k b. top_of stack c.args.place c.requires.top.last s.stack_rises k (s.bases_in k b)) in
    let said : c.is_last.result ≡ true = c.is_last.ensures.1 (subst (λ (l : List ℕ). slice_get l (length l - 1) ≡ Some c.args.place) (sym c.as_slice.ensures.value) last) in
    let no : true ≡ false = sym said ∙ c.if-is_last.false in cc in
    left_one c.args.graph.now start c.args.self.now.left.items c.args.self.now.marks.items c.args.self.now.path.items bases stack c.args.self.now.order.items s c.pop.new.self.items c.args.place is none c.requires.spent
