-- How the sizes of modules follow from those of one level less.
use Rattle.std.specs.Prelude.{◌≡◌, ℕ, ◌+◌, ◌<◌, false, ◌||◌, min, List, fold, slice_get, slice_index_or, Some}
use Rattle.bind_forms.specs.declared.bound.BoundKind.{BoundKind}
use Rattle.bind_forms.specs.declared.bound.BoundKind.TheVariants.{Module, Cell}
use Rattle.bind_forms.specs.declared.bound.BoundInstance.{BoundInstance}
use Rattle.bind_forms.specs.declared.bound.BoundModule.{BoundModule}
use Rattle.flat_places.specs.declared.size.Size.{Size}
use Rattle.flat_places.specs.Hierarchy.{bits_of, module_of}

-- nothing deeper, no cells, no wire bits
abbrev pub empty_size : Size
empty_size = record { deep = false; cells = 0; bits = 0 }

-- two sizes together, where the counts go no further than one past their limits
abbrev pub joined : Size → Size → Size
joined one other = record { deep = one.deep || other.deep; cells = min (one.cells + other.cells) 100001; bits = min (one.bits + other.bits) 2000001 }

-- what an instance comes to, where modules have these sizes
abbrev pub kind_size : List Size → BoundKind → Size
kind_size below (Module at) = slice_index_or below at empty_size
kind_size below (Cell row) = record { deep = false; cells = 1; bits = 0 }

-- the size of a module whose instances are of modules of these sizes
abbrev pub module_size : List Size → BoundModule → Size
module_size below owner = fold (λ size instance. joined size (kind_size below instance.kind)) (record { deep = false; cells = 0; bits = min (bits_of owner.wires) 2000001 }) owner.instances

-- each instance is of a cell, or of a module with a number below this
abbrev pub AreBelow : ℕ → List BoundInstance → Type 0
AreBelow count instances = (place inner : ℕ) (instance : BoundInstance) → slice_get instances place ≡ Some instance → module_of instance.kind ≡ Some inner → inner < count
