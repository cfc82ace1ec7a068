-- A file has one form.
use Rattle.std.proofs.Common.{◌≡◌, ◌⊎◌, inl, inr, ◌∙◌, ◌-◌, ◌==◌, ℕ, Bool, cond, true, false, refl, ap, sym, subst, arith, List, [], ◌∷◌, length, drop, Result, Ok, Err}
use Rattle.std.specs.Prelude.{nat_eq, ◌&&◌, nat_le}
use Rattle.std.specs.List.{starts_with}
use Rattle.std.proofs.lemmas.Bool.{eqb-true}
use Rattle.golden_aig.specs.declared.graph.Aig.{Aig}
use Rattle.aiger_order.specs.declared.listing.Listing.{Listing}
use Rattle.aiger_order.specs.Renaming.{IsRenaming, IsOrdered, IsOneGraph}
use Rattle.aiger_parts.specs.declared.fault.Stop.{Stop}
use Rattle.aiger_parts.specs.declared.fault.AigerFault.{AigerFault}
use Rattle.aiger_parts.specs.declared.fault.AigerWhy.TheVariants as why
use Rattle.aiger_parts.specs.declared.header.Form.{Form}
use Rattle.aiger_parts.specs.declared.header.Form.TheVariants as form
use Rattle.aiger_parts.specs.declared.header.Header.{Header}
use Rattle.aiger_read.specs.declared.text.Text.{Text}
use Rattle.aiger_parts.specs.Reading.{fault}
use Rattle.aiger_parts.specs.Header.{header_at, has_head, word_of, variables_at, spaces_in}
use Rattle.aiger_read.specs.Graph.{graph_at, IsBinaryFault}
use Rattle.aiger_read.specs.Text.{text_at, listing_of, IsAsciiFault, IsRingFault}
use Rattle.aiger_read.specs.Both.{is_ascii, IsFileOf, SpellsNone, FilesAreSpelled}
use Rattle.aiger_read.specs.Spelled.{Spelled, SpellOne}
use Rattle.aiger_read.proofs.BinaryFiles.{binary_read, binary_written}
use Rattle.aiger_read.proofs.AsciiFiles.{ascii_read, ascii_written, ascii_listing}
use Rattle.aiger_read.proofs.WellFormed.{bind_ok, same_value}

and_true : (a b : Bool) → (a && b) ≡ true → (a ≡ true) × (b ≡ true)
and_true true b e = (refl, e)
and_true false b e = absurd cc

when_true : {A : Type 0} (b : Bool) (s : Stop) (r : Result A Stop) (y : A) → cond b r (Err s) ≡ Ok y → b ≡ true
when_true true s r y e = refl
when_true false s r y e = absurd cc

-- a first line that is read begins with the word of its form
begins : (form : Form) (bytes : List ℕ) (x : Header × List ℕ) → header_at form bytes ≡ Ok x → starts_with nat_eq bytes (word_of form) ≡ true
unfolding header_at
begins form bytes x e =
    let variables = bind_ok (cond (has_head form bytes) (variables_at (drop 4 bytes)) (Err (fault why.Header bytes))) _ x e in
    let head : has_head form bytes ≡ true = when_true (has_head form bytes) (fault why.Header bytes) (variables_at (drop 4 bytes)) variables.0 variables.1 in
    go (starts_with nat_eq bytes (word_of form)) head
  where
    go : (b : Bool) → (b && nat_le 5 (spaces_in bytes) && nat_le (spaces_in bytes) 9) ≡ true → b ≡ true
    go true h = refl
    go false h = absurd cc

list_begins : (bytes : List ℕ) (text : Text) → text_at bytes ≡ Ok text → is_ascii bytes ≡ true
unfolding text_at
list_begins bytes text e = let head = bind_ok (header_at form.Ascii bytes) _ text e in begins form.Ascii bytes head.0 head.1

graph_begins : (bytes : List ℕ) (aig : Aig) → graph_at bytes ≡ Ok aig → starts_with nat_eq bytes (word_of form.Binary) ≡ true
unfolding graph_at
graph_begins bytes aig e = let head = bind_ok (header_at form.Binary bytes) _ aig e in begins form.Binary bytes head.0 head.1

two_words : (bytes : List ℕ) → is_ascii bytes ≡ true → starts_with nat_eq bytes (word_of form.Binary) ≡ true → ⊥
two_words [] a b = absurd cc
two_words (x ∷ []) a b = let rest = and_true (97 == x) false a in absurd cc
two_words (x ∷ y ∷ bytes) a b =
    let one = and_true (97 == x) ((97 == y) && starts_with nat_eq bytes (103 ∷ 32 ∷ [])) a in
    let two = and_true (97 == x) ((105 == y) && starts_with nat_eq bytes (103 ∷ 32 ∷ [])) b in
    let first = and_true (97 == y) (starts_with nat_eq bytes (103 ∷ 32 ∷ [])) one.1 in
    let second = and_true (105 == y) (starts_with nat_eq bytes (103 ∷ 32 ∷ [])) two.1 in
    let low : 97 ≡ y = eqb-true 97 y first.0 in
    let high : 105 ≡ y = eqb-true 105 y second.0 in
    absurd (omega arith)

-- ---- spelled files

pub spelled : FilesAreSpelled
spelled bytes aig graph = (read, written) where
  read : IsFileOf bytes aig → Spelled bytes aig
  read (inl lists) = inl (ascii_read bytes aig graph lists)
  read (inr reads) = inr (binary_read bytes aig reads)

  written : Spelled bytes aig → IsFileOf bytes aig
  written (inl file) = inl (ascii_written bytes aig file)
  written (inr file) = inr (binary_written bytes aig file)

pub none_in_lines : (bytes : List ℕ) (fault : AigerFault) → is_ascii bytes ≡ true → IsAsciiFault bytes fault → SpellsNone bytes fault
none_in_lines bytes fault ascii (inl memory) = inl memory
none_in_lines bytes fault ascii (inr refusal) = inr (no_file refusal) where
  no_file : (((stop : Stop) × (text_at bytes ≡ Err stop) × (fault.why ≡ stop.why) × (fault.offset ≡ length bytes - stop.left)) ⊎ ((text : Text) × (text_at bytes ≡ Ok text) × IsRingFault (length bytes) text fault)) → (aig : Aig) → Spelled bytes aig → ⊥
  no_file r aig (inr file) = two_words bytes ascii (graph_begins bytes aig (binary_written bytes aig file))
  no_file (inl (stop, is, why, offset)) aig (inl file) = let list = ascii_written bytes aig file in let both = sym is ∙ list.1 in absurd cc
  no_file (inr (text, is, ring)) aig (inl file) =
      let list = ascii_written bytes aig file in
      let same : list.0 ≡ text = same_value list.0 text (sym list.1 ∙ is) in
      ring.none aig file.graph (subst (λ (t : Text). IsRenaming (listing_of t) aig) same list.2)

pub none_in_bytes : (bytes : List ℕ) (fault : AigerFault) → is_ascii bytes ≡ false → IsBinaryFault bytes fault → SpellsNone bytes fault
none_in_bytes bytes fault other (inl memory) = inl memory
none_in_bytes bytes fault other (inr (stop, is, why, offset)) = inr none where
  none : (aig : Aig) → Spelled bytes aig → ⊥
  none aig (inl file) = let list = ascii_written bytes aig file in let begins = list_begins bytes list.0 list.1 in absurd cc
  none aig (inr file) = let both = sym is ∙ binary_written bytes aig file in absurd cc

-- ---- one graph

pub one_spelling : IsOneGraph → SpellOne
one_spelling unique bytes one other (inl (f, first)) (inl (g, again)) =
    let tf = ascii_listing bytes one f in
    let tg = ascii_listing bytes other g in
    let text : tf.0 ≡ tg.0 = same_value tf.0 tg.0 (sym tf.1 ∙ tg.1) in
    let listing : g.listing ≡ f.listing = sym tg.2 ∙ ap listing_of (sym text) ∙ tf.2 in
    unique f.listing one other f.graph g.graph (f.names, f.renames, first) (subst (λ (l : Listing). IsOrdered l other) listing (g.names, g.renames, again))
one_spelling unique bytes one other (inl (f, first)) (inr g) =
    let list = ascii_written bytes one f in
    absurd (two_words bytes (list_begins bytes list.0 list.1) (graph_begins bytes other (binary_written bytes other g)))
one_spelling unique bytes one other (inr f) (inl (g, again)) =
    let list = ascii_written bytes other g in
    absurd (two_words bytes (list_begins bytes list.0 list.1) (graph_begins bytes one (binary_written bytes one f)))
one_spelling unique bytes one other (inr f) (inr g) = same_value one other (sym (binary_written bytes one f) ∙ binary_written bytes other g)
