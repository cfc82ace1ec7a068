-- One more line that binds.
use Rattle.std.proofs.Common.{◌≡◌, ◌∙◌, ℕ, zero, suc, ◌+◌, ◌<◌, ◌≤◌, ◌==◌, ◌||◌, Bool, true, false, not, cond, if◌then◌else◌, sym, refl, ap, ap₂, arith, List, [], ◌∷◌, ◌++◌, length, take, drop, get_or, append-nil, Option, Some, None, is_some, eqb-true}
use Rattle.std.specs.Option.{option_map, option_or}
use Rattle.std.specs.List.{All, find, list_all, list_any}
use Rattle.std.proofs.lemmas.List.{take_more, drop_more, take_all, same_lists}
use Rattle.std.proofs.lemmas.List.Folds.{find-append}
use Rattle.std.proofs.Math.ListN.{drop_of_length-le}
use Rattle.std.proofs.lemmas.List.FromFn.{get_or-map-range_with_len, length-map-range_with_len}
use Rattle.std.proofs.lemmas.Grind.{flat_map-append}
use Rattle.rsfq_ids.specs.declared.circuit.PortBit.{PortBit}
use Rattle.rsfq_ids.specs.declared.circuit.PortUse.{PortUse}
use Rattle.env_table.specs.declared.env.EnvLine.{EnvLine}
use Rattle.env_table.specs.declared.fault.EnvFault.{EnvFault}
use Rattle.env_table.specs.declared.fault.EnvFault.TheVariants.{Direction, Repeated, Unknown}
use Rattle.env_table.specs.declared.uses.ClockBit.{ClockBit}
use Rattle.env_table.specs.Names.{bits_of}
use Rattle.env_table.specs.Binding.{IsCause, bind_fault, clocks_as, clocks_of, direction_fault, first_of, fits_direction, is_output, lines_fault, names_bit, unknown_fault, unless, use_of, uses_of}
use Rattle.env_table.specs.Bound.{line_fault_in}
use Rattle.env_table.proofs.FaultFacts.{first_none, first_some}
use Rattle.env_table.proofs.PortFacts.{bits_below}

-- the lines before a place are bound: each port bit has the use that they give it, and the rest of the lines decides the fault
pub record IsBoundUpTo (ports : List PortBit) (lines : List EnvLine) (count : ℕ) (uses : List (Option PortUse)) (clocks : List ClockBit) : Type 0 where
  pub many : length uses ≡ length ports
  pub uses_are : (bit : ℕ) → bit < length ports → get_or uses bit None ≡ use_of ports (take count lines) bit
  pub clocks_are : clocks ≡ clocks_of ports (take count lines)
  pub rest : lines_fault ports [] lines ≡ lines_fault ports (take count lines) (drop count lines)

-- the uses after one more line
abbrev pub Sets : List PortBit → EnvLine → List (Option PortUse) → List (Option PortUse) → Type 0
Sets ports line old new = (bit : ℕ) → bit < length old → get_or new bit None ≡ (if list_any (λ other. other == bit) (bits_of ports line.port) then Some line.used else get_or old bit None)

any_same : {X : Type 0} (p q : X → Bool) (xs : List X) → All (λ x. p x ≡ q x) xs → list_any p xs ≡ list_any q xs
any_same p q [] same = refl
any_same p q (x ∷ xs) same = ap₂ (λ (a b : Bool). a || b) (same 0 x (omega arith)) (any_same p q xs (λ k d less. same (suc k) d (omega arith)))

-- what the code asks of a line is what is asked of it behind the lines before it
same_fault : (ports : List PortBit) (earlier : List EnvLine) (uses : List (Option PortUse)) (line : EnvLine)
    → ((bit : ℕ) → bit < length ports → get_or uses bit None ≡ use_of ports earlier bit)
    → line_fault_in ports uses line ≡ bind_fault ports earlier line
same_fault ports earlier uses line are =
    ap (λ any. first_of (unknown_fault ports line ∷ direction_fault ports line ∷ cond (not any) None (Some (Repeated line.port)) ∷ []))
    (any_same (λ bit. is_some (get_or uses bit None)) (λ bit. is_some (use_of ports earlier bit)) (bits_of ports line.port)
    (λ k d less. ap (λ (used : Option PortUse). is_some used) (are (get_or (bits_of ports line.port) k d) (bits_below ports line.port k d less))))

default : {X : Type 0} (xs : List X) (k : ℕ) (d e : X) → k < length xs → get_or xs k d ≡ get_or xs k e
default [] k d e less = absurd (omega arith)
default (x ∷ xs) zero d e less = refl
default (x ∷ xs) (suc k) d e less = default xs k d e (omega arith)

first_one : (stands : Option EnvFault) → first_of (stands ∷ []) ≡ stands
unfolding first_of
first_one None = refl
first_one (Some why) = refl

line_passed : (ports : List PortBit) (earlier : List EnvLine) (line : EnvLine) (more : List EnvLine) → bind_fault ports earlier line ≡ None
    → lines_fault ports earlier (line ∷ more) ≡ lines_fault ports (earlier ++ line ∷ []) more
unfolding lines_fault
line_passed ports earlier line more none = first_none (bind_fault ports earlier line) (lines_fault ports (earlier ++ line ∷ []) more ∷ []) none ∙ first_one (lines_fault ports (earlier ++ line ∷ []) more)

line_failed : (ports : List PortBit) (earlier : List EnvLine) (line : EnvLine) (more : List EnvLine) (why : EnvFault) → bind_fault ports earlier line ≡ Some why
    → lines_fault ports earlier (line ∷ more) ≡ Some why
unfolding lines_fault
line_failed ports earlier line more why some = first_some (bind_fault ports earlier line) why (lines_fault ports (earlier ++ line ∷ []) more ∷ []) some

-- the use of a bit behind one more line
use_more : (ports : List PortBit) (earlier : List EnvLine) (line : EnvLine) (bit : ℕ)
    → use_of ports (earlier ++ line ∷ []) bit ≡ option_or (use_of ports earlier bit) (if names_bit ports bit line then Some line.used else None)
use_more ports earlier line bit = ap (option_map (λ line. line.used)) (find-append (names_bit ports bit) earlier (line ∷ [])) ∙ go (find (names_bit ports bit) earlier) (names_bit ports bit line)
  where
    go : (found : Option EnvLine) (named : Bool) → option_map (λ line. line.used) (option_or found (cond named (Some line) None)) ≡ option_or (option_map (λ line. line.used) found) (cond named (Some line.used) None)
    go (Some line) named = refl
    go None true = refl
    go None false = refl

none_of : {X : Type 0} (o : Option X) → is_some o ≡ false → o ≡ None
none_of None e = refl
none_of (Some x) e = cc

-- a bit of the line has no use yet
pub no_use : (uses : List (Option PortUse)) (bits : List ℕ) (bit : ℕ) → list_any (λ other. is_some (get_or uses other None)) bits ≡ false → list_any (λ other. other == bit) bits ≡ true
    → is_some (get_or uses bit None) ≡ false
no_use uses [] bit none there = cc
no_use uses (other ∷ bits) bit none there = go (other == bit) refl (is_some (get_or uses other None)) refl none there (λ later. no_use uses bits bit later)
  where
    go : (same : Bool) → (other == bit) ≡ same → (used : Bool) → is_some (get_or uses other None) ≡ used
        → (used || list_any (λ other. is_some (get_or uses other None)) bits) ≡ false → (same || list_any (λ other. other == bit) bits) ≡ true
        → (list_any (λ other. is_some (get_or uses other None)) bits ≡ false → list_any (λ other. other == bit) bits ≡ true → is_some (get_or uses bit None) ≡ false)
        → is_some (get_or uses bit None) ≡ false
    go same is true has none there later = cc
    go true is false has none there later = ap (λ n. is_some (get_or uses n None)) (sym (eqb-true other bit is)) ∙ has
    go false is false has none there later = later none there

three_pass : (a b c : Bool) (x y z : EnvFault) → first_of (unless a x ∷ unless b y ∷ unless c z ∷ []) ≡ None → (a ≡ true) × (b ≡ true) × (c ≡ true)
unfolding first_of
three_pass true true true x y z e = (refl, refl, refl)
three_pass false b c x y z e = cc
three_pass true false c x y z e = cc
three_pass true true false x y z e = cc

not_true : (b : Bool) → not b ≡ true → b ≡ false
not_true true e = cc
not_true false e = refl

checks : (ports : List PortBit) (uses : List (Option PortUse)) (line : EnvLine) → line_fault_in ports uses line ≡ None
    → (not (length (bits_of ports line.port) == 0) ≡ true) × (list_all (λ bit. fits_direction line.used (is_output ports bit)) (bits_of ports line.port) ≡ true)
    × (not (list_any (λ bit. is_some (get_or uses bit None)) (bits_of ports line.port)) ≡ true)
checks ports uses line none =
    three_pass (not (length (bits_of ports line.port) == 0)) (list_all (λ bit. fits_direction line.used (is_output ports bit)) (bits_of ports line.port))
    (not (list_any (λ bit. is_some (get_or uses bit None)) (bits_of ports line.port))) (Unknown line.port) (Direction line.port) (Repeated line.port) none

-- a line that binds has no bit that is used
pub unused : (ports : List PortBit) (uses : List (Option PortUse)) (line : EnvLine) → line_fault_in ports uses line ≡ None
    → list_any (λ bit. is_some (get_or uses bit None)) (bits_of ports line.port) ≡ false
unused ports uses line none = not_true (list_any (λ bit. is_some (get_or uses bit None)) (bits_of ports line.port)) (checks ports uses line none).2

-- and its bits have its direction
pub directed : (ports : List PortBit) (uses : List (Option PortUse)) (line : EnvLine) → line_fault_in ports uses line ≡ None
    → list_all (λ bit. fits_direction line.used (is_output ports bit)) (bits_of ports line.port) ≡ true
directed ports uses line none = (checks ports uses line none).1

or_none : {X : Type 0} (o : Option X) → option_or o None ≡ o
or_none None = refl
or_none (Some x) = refl

uses_more : (ports : List PortBit) (earlier : List EnvLine) (line : EnvLine) (old new : List (Option PortUse)) → length old ≡ length ports
    → ((bit : ℕ) → bit < length ports → get_or old bit None ≡ use_of ports earlier bit) → line_fault_in ports old line ≡ None → Sets ports line old new
    → (bit : ℕ) → bit < length ports → get_or new bit None ≡ use_of ports (earlier ++ line ∷ []) bit
uses_more ports earlier line old new many are none sets bit less = go (names_bit ports bit line) refl
  where
    now : get_or new bit None ≡ cond (names_bit ports bit line) (Some line.used) (get_or old bit None)
    now = sets bit (omega arith)

    after : use_of ports (earlier ++ line ∷ []) bit ≡ option_or (use_of ports earlier bit) (cond (names_bit ports bit line) (Some line.used) None)
    after = use_more ports earlier line bit

    go : (b : Bool) → names_bit ports bit line ≡ b → get_or new bit None ≡ use_of ports (earlier ++ line ∷ []) bit
    go true is =
        let free : use_of ports earlier bit ≡ None = sym (are bit less) ∙ none_of (get_or old bit None) (no_use old (bits_of ports line.port) bit (unused ports old line none) is) in
        (now ∙ ap (λ b. cond b (Some line.used) (get_or old bit None)) is)
        ∙ sym (after ∙ ap₂ (λ (o : Option PortUse) (b : Bool). option_or o (cond b (Some line.used) None)) free is)
    go false is =
        (now ∙ (ap (λ b. cond b (Some line.used) (get_or old bit None)) is ∙ are bit less))
        ∙ sym (after ∙ (ap (λ b. option_or (use_of ports earlier bit) (cond b (Some line.used) None)) is ∙ or_none (use_of ports earlier bit)))

pub bound_none : (ports : List PortBit) (lines : List EnvLine) (uses : List (Option PortUse)) → length uses ≡ length ports → ((bit : ℕ) → get_or uses bit None ≡ None)
    → IsBoundUpTo ports lines 0 uses []
bound_none ports lines uses many none = record { many = many; uses_are = λ bit less. none bit; clocks_are = refl; rest = refl }

-- one more line that binds
pub bound_more : (ports : List PortBit) (lines : List EnvLine) (count : ℕ) (line : EnvLine) (old new : List (Option PortUse)) (clocks clocks_new : List ClockBit)
    → IsBoundUpTo ports lines count old clocks → count < length lines → get_or lines count line ≡ line → line_fault_in ports old line ≡ None
    → length new ≡ length old → Sets ports line old new → clocks_new ≡ clocks ++ clocks_as line.used line.jitter (bits_of ports line.port)
    → IsBoundUpTo ports lines (count + 1) new clocks_new
bound_more ports lines count line old new clocks clocks_new so_far less is none many sets added = record {
  many = many ∙ so_far.many;
  uses_are = λ bit below. uses_more ports (take count lines) line old new so_far.many so_far.uses_are none sets bit below ∙ ap (λ some. use_of ports some bit) (sym grown);
  clocks_are = added ∙ (ap₂ (λ (xs ys : List ClockBit). xs ++ ys) so_far.clocks_are (sym (append-nil (clocks_as line.used line.jitter (bits_of ports line.port))))
      ∙ (sym (flat_map-append (λ line. clocks_as line.used line.jitter (bits_of ports line.port)) (take count lines) (line ∷ [])) ∙ ap (clocks_of ports) (sym grown)));
  rest = so_far.rest ∙ (ap (lines_fault ports (take count lines)) opened ∙ (passed ∙ ap (λ some. lines_fault ports some (drop (count + 1) lines)) (sym grown)));
}
  where
    grown : take (count + 1) lines ≡ take count lines ++ line ∷ []
    grown = take_more lines count line less ∙ ap (λ one. take count lines ++ one ∷ []) is

    opened : drop count lines ≡ line ∷ drop (count + 1) lines
    opened = drop_more lines count line less ∙ ap (λ one. one ∷ drop (count + 1) lines) is

    passed : lines_fault ports (take count lines) (line ∷ drop (count + 1) lines) ≡ lines_fault ports (take count lines ++ line ∷ []) (drop (count + 1) lines)
    passed = line_passed ports (take count lines) line (drop (count + 1) lines) (sym (same_fault ports (take count lines) old line so_far.uses_are) ∙ none)

-- a line that does not bind is the first
pub bound_fault : (ports : List PortBit) (lines : List EnvLine) (count : ℕ) (line : EnvLine) (uses : List (Option PortUse)) (clocks : List ClockBit) (why : EnvFault)
    → IsBoundUpTo ports lines count uses clocks → count < length lines → get_or lines count line ≡ line → line_fault_in ports uses line ≡ Some why
    → lines_fault ports [] lines ≡ Some why
bound_fault ports lines count line uses clocks why so_far less is some =
    so_far.rest ∙ (ap (lines_fault ports (take count lines)) (drop_more lines count line less ∙ ap (λ one. one ∷ drop (count + 1) lines) is)
    ∙ line_failed ports (take count lines) line (drop (count + 1) lines) why (sym (same_fault ports (take count lines) uses line so_far.uses_are) ∙ some))

-- and its cause is that of all lines
pub bound_cause : (ports : List PortBit) (lines : List EnvLine) (count : ℕ) (line : EnvLine) (uses : List (Option PortUse)) (clocks : List ClockBit) (why : EnvFault)
    → IsBoundUpTo ports lines count uses clocks → count < length lines → get_or lines count line ≡ line → IsCause (line_fault_in ports uses line) why
    → IsCause (lines_fault ports [] lines) why
bound_cause ports lines count line uses clocks why so_far less is cause = λ other. bound_fault ports lines count line uses clocks why so_far less is (cause other)

-- all lines are bound
pub bound_all : (ports : List PortBit) (lines : List EnvLine) (count : ℕ) (uses : List (Option PortUse)) (clocks : List ClockBit)
    → IsBoundUpTo ports lines count uses clocks → length lines ≤ count → (lines_fault ports [] lines ≡ None) × (uses ≡ uses_of ports lines) × (clocks ≡ clocks_of ports lines)
unfolding lines_fault
bound_all ports lines count uses clocks so_far all = (
  so_far.rest ∙ ap (lines_fault ports (take count lines)) (drop_of_length-le lines all),
  same_lists uses (uses_of ports lines) (so_far.many ∙ sym (length-map-range_with_len (use_of ports lines) 0 (length ports)))
      (λ k d less.
      let below : k < length ports = omega (arith, so_far.many) in
      default uses k d None less
      ∙ (so_far.uses_are k below ∙ (ap (λ some. use_of ports some k) (take_all count lines all) ∙ sym (get_or-map-range_with_len (use_of ports lines) 0 (length ports) k k d below (omega arith))))),
  so_far.clocks_are ∙ ap (clocks_of ports) (take_all count lines all),
)
