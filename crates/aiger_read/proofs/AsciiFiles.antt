-- ASCII files, read and written.
use Rattle.std.proofs.Common.{◌≡◌, ◌⊎◌, ◌∙◌, inl, inr, ◌<◌, ◌≤◌, ◌+◌, ◌*◌, ◌/◌, ◌==◌, ℕ, Bool, true, false, cond, zero, suc, refl, ap, sym, subst, arith, List, [], ◌∷◌, ◌++◌, length, length-append, None, Some, Result, Ok, Err}
use Rattle.rsfq_ids.specs.declared.limits.TheConstants.{AIG_LIMIT}
use Rattle.std.specs.Prelude.{slice_get, map, replicate, ◌||◌}
use Rattle.std.specs.List.{AllZip}
use Rattle.std.proofs.lemmas.Bool.{eq-eqb, leb-true, le-leb}
use Rattle.std.proofs.lemmas.List.{append-nil}
use Rattle.golden_aig.specs.declared.graph.Aig.{Aig}
use Rattle.golden_aig.specs.declared.graph.And.{And}
use Rattle.golden_aig.specs.Aig.{IsAig}
use Rattle.aiger_order.specs.declared.listing.Listing.{Listing}
use Rattle.aiger_order.specs.Numbers.{HoldsOnce}
use Rattle.aiger_order.specs.Listing.{IsDefined, IsListing, defined_by}
use Rattle.aiger_order.specs.Renaming.{Renames}
use Rattle.aiger_order.proofs.Lists.{get_behind, get_more}
use Rattle.aiger_parts.specs.declared.fault.Stop.{Stop}
use Rattle.aiger_parts.specs.declared.fault.AigerWhy.TheVariants as why
use Rattle.aiger_parts.specs.declared.header.Form.TheVariants as form
use Rattle.aiger_parts.specs.declared.header.Header.{Header}
use Rattle.aiger_read.specs.declared.lines.Used.{Used}
use Rattle.aiger_read.specs.declared.lines.Line.{Line}
use Rattle.aiger_read.specs.declared.text.Text.{Text}
use Rattle.aiger_parts.specs.Header.{header_at, fits_form}
use Rattle.aiger_parts.specs.Symbols.{Entries, symbols_at}
use Rattle.aiger_read.specs.Lines.{is_in, lhs_of, more_at, input_at, output_at, and_line_at}
use Rattle.aiger_read.specs.Text.{use_known_at, known_at, uses_of, and_of, listing_of, text_at, ListsAs, ListsInOrder}
use Rattle.aiger_read.specs.Spelling.{WritesNumber}
use Rattle.aiger_read.specs.Spelled.{in_lines, in_fields, IsHeadLine, IsAndLine, IsAsciiFile, IsAsciiInOrder, AreSymbolLines, LacksNewline}
use Rattle.aiger_read.proofs.WellFormed.{given, same_value, bind_ok}
use Rattle.aiger_read.proofs.Listings.{AreGood, in_at, fused, text_ok}
use Rattle.aiger_read.proofs.FileLines.{LineAt, LinesAt, AllSome, lines_join, lines_part}
use Rattle.aiger_read.proofs.FieldTexts.{field_some, all_some}
use Rattle.aiger_read.proofs.HeadLines.{head_read, head_written}
use Rattle.aiger_read.proofs.SymbolFiles.{EndAt, symbols_read, symbols_written}
use Rattle.aiger_read.proofs.SymbolSets.{lines_are, lines_put, lines_one}
use Rattle.aiger_read.proofs.TextEnds.{TailAt, tail_text, tail_at, tail_at_open}
use Rattle.aiger_read.proofs.BinaryFiles.{symbols_some}
use Rattle.aiger_read.proofs.AsciiLines.{more_read, more_written, input_read, output_read, and_line_read, input_written, output_written, and_line_written, WritesUse, WritesLine, AreLow, AreNewAnds, lhs_of_all}
use Rattle.aiger_read.proofs.FileListings.{is_listing, names_inside}

-- ---- lines of what is listed

pub zip_map : {A B : Type 0} (R : List ℕ → B → Type 0) (f : A → B) (lines : List (List ℕ)) (items : List A) → AllZip (λ text item. R text (f item)) lines items → AllZip R lines (map f items)
zip_map R f [] [] all = tt
zip_map R f [] (x ∷ xs) all = absurd all
zip_map R f (line ∷ lines) [] all = absurd all
zip_map R f (line ∷ lines) (x ∷ xs) all = (all.0, zip_map R f lines xs all.1)

-- The parts of an ASCII file of a listing.
record TextParts (bytes : List ℕ) (listing : Listing) : Type 0 where
  head : List ℕ
  inputs : List (List ℕ)
  outputs : List (List ℕ)
  ands : List (List ℕ)
  symbols : List (List ℕ)
  r0 : List ℕ
  r1 : List ℕ
  r2 : List ℕ
  r3 : List ℕ
  r4 : List ℕ
  room : length listing.inputs + length listing.ands ≤ listing.top
  limit : listing.top ≤ AIG_LIMIT
  head_line : IsHeadLine form.Ascii listing.top (length listing.inputs) (length listing.outputs) (length listing.ands) head
  input_lines : AllZip WritesNumber inputs listing.inputs
  output_lines : AllZip WritesNumber outputs listing.outputs
  and_lines : AllZip IsAndLine ands listing.ands
  symbol_lines : AreSymbolLines (listing.in_names, listing.out_names) symbols
  head_at : LineAt head bytes r0
  inputs_at : LinesAt inputs r0 r1
  outputs_at : LinesAt outputs r1 r2
  ands_at : LinesAt ands r2 r3
  symbols_at : LinesAt symbols r3 r4
  end : EndAt r4

text_of : ℕ → List ℕ → List Used → List Line → ℕ → Entries → Entries → Text
text_of top inputs outputs lines left ins outs = record { top = top; inputs = inputs; outputs = outputs; lines = lines; left = left; in_names = ins; out_names = outs }

more_count : {A : Type 0} (one : List A → List ℕ → Result (A × List ℕ) Stop) (count : ℕ) (front : List A) (bytes : List ℕ) (xs : List A × List ℕ) → more_at one count front bytes ≡ given xs → length xs.0 ≡ length front + count
more_count {A} one zero front bytes xs e = (let same = ap (λ (p : List A × List ℕ). length p.0) (same_value (front, bytes) xs e) in omega arith)
more_count one (suc count) front bytes xs e =
    let first = bind_ok (one front bytes) (λ x. more_at one count (front ++ x.0 ∷ []) x.1) xs e in
    let rest = more_count one count (front ++ first.0.0 ∷ []) first.0.1 xs first.2 in
    rest ∙ longer front first.0.0 count
  where
    longer : {B : Type 0} (xs : List B) (x : B) (n : ℕ) → length (xs ++ x ∷ []) + n ≡ length xs + suc n
    longer [] x n = omega arith
    longer (y ∷ ys) x n = let more = longer ys x n in omega arith

pub length_map : {A B : Type 0} (f : A → B) (xs : List A) → length (map f xs) ≡ length xs
length_map f [] = refl
length_map f (x ∷ xs) = ap suc (length_map f xs)

ascii_counts : (h : Header) (line : List ℕ) (i o a : ℕ) → i ≡ h.inputs → o ≡ h.outputs → a ≡ h.ands → IsHeadLine form.Ascii h.variables h.inputs h.outputs h.ands line → IsHeadLine form.Ascii h.variables i o a line
ascii_counts h line i o a inputs outputs ands is =
    subst (λ (n : ℕ). IsHeadLine form.Ascii h.variables n o a line) (sym inputs) (subst (λ (n : ℕ). IsHeadLine form.Ascii h.variables h.inputs n a line) (sym outputs) (subst (λ (n : ℕ). IsHeadLine form.Ascii h.variables h.inputs h.outputs n line) (sym ands) is))

ascii_room : (h : Header) (i a : ℕ) → i ≡ h.inputs → a ≡ h.ands → fits_form form.Ascii h ≡ true → i + a ≤ h.variables
ascii_room h i a inputs ands fits = let le = leb-true (h.inputs + h.ands) h.variables fits in omega arith

pub le_self : (n : ℕ) → n ≤ n
le_self n = omega arith

text_parts : (bytes : List ℕ) (text : Text) → text_at bytes ≡ given text → TextParts bytes (listing_of text)
unfolding text_at text_of
text_parts bytes text e =
    let head = bind_ok (header_at form.Ascii bytes) _ text e in
    let h : Header = head.0.0 in
    let inputs = bind_ok (more_at (input_at h.variables) h.inputs [] head.0.1) _ text head.2 in
    let outputs = bind_ok (more_at (λ front. output_at h.variables) h.outputs [] inputs.0.1) _ text inputs.2 in
    let lines = bind_ok (more_at (λ front. and_line_at h.variables (inputs.0.0 ++ lhs_of front)) h.ands [] outputs.0.1) _ text outputs.2 in
    let names = bind_ok (symbols_at (length lines.0.1) (replicate h.inputs None, replicate h.outputs None) lines.0.1) _ text lines.2 in
    let one = bind_ok (known_at (inputs.0.0 ++ lhs_of lines.0.0) outputs.0.0) _ text names.2 in
    let two = bind_ok (known_at (inputs.0.0 ++ lhs_of lines.0.0) (uses_of lines.0.0)) _ text one.2 in
    let made : Text = text_of h.variables inputs.0.0 outputs.0.0 lines.0.0 (length outputs.0.1) names.0.0 names.0.1 in
    let is : made ≡ text = same_value made text two.2 in
    let line = head_read form.Ascii bytes h head.0.1 head.1 in
    let ri = more_read WritesNumber (input_at h.variables) (input_read h.variables) h.inputs [] head.0.1 inputs.0 inputs.1 in
    let ro = more_read WritesUse (λ front. output_at h.variables) (output_read h.variables) h.outputs [] inputs.0.1 outputs.0 outputs.1 in
    let ra = more_read WritesLine (λ (front : List Line). and_line_at h.variables (inputs.0.0 ++ lhs_of front)) (and_line_read h.variables inputs.0.0) h.ands [] outputs.0.1 lines.0 lines.1 in
    let rs = symbols_read (length lines.0.1) (replicate h.inputs None, replicate h.outputs None) names.0 lines.0.1 names.1 (le_self (length lines.0.1)) in
    let ci : length inputs.0.0 ≡ h.inputs = more_count (input_at h.variables) h.inputs [] head.0.1 inputs.0 inputs.1 ∙ none h.inputs in
    let co : length (map (λ (u : Used). u.literal) outputs.0.0) ≡ h.outputs = length_map (λ (u : Used). u.literal) outputs.0.0 ∙ more_count (λ front. output_at h.variables) h.outputs [] inputs.0.1 outputs.0 outputs.1 ∙ none h.outputs in
    let ca : length (map and_of lines.0.0) ≡ h.ands = length_map and_of lines.0.0 ∙ more_count (λ (front : List Line). and_line_at h.variables (inputs.0.0 ++ lhs_of front)) h.ands [] outputs.0.1 lines.0 lines.1 ∙ none h.ands in
    subst (λ (t : Text). TextParts bytes (listing_of t)) is (record {
      head = line.line;
      inputs = ri.lines;
      outputs = ro.lines;
      ands = ra.lines;
      symbols = rs.lines;
      r0 = head.0.1;
      r1 = inputs.0.1;
      r2 = outputs.0.1;
      r3 = lines.0.1;
      r4 = rs.rest;
      room = ascii_room h (length inputs.0.0) (length (map and_of lines.0.0)) ci ca line.fits;
      limit = line.limit;
      head_line = ascii_counts h line.line (length inputs.0.0) (length (map (λ (u : Used). u.literal) outputs.0.0)) (length (map and_of lines.0.0)) ci co ca line.is;
      input_lines = subst (AllZip WritesNumber ri.lines) (sym ri.are) ri.write;
      output_lines = zip_map WritesNumber (λ (u : Used). u.literal) ro.lines outputs.0.0 (subst (AllZip WritesUse ro.lines) (sym ro.are) ro.write);
      and_lines = zip_map IsAndLine and_of ra.lines lines.0.0 (subst (AllZip WritesLine ra.lines) (sym ra.are) ra.write);
      symbol_lines = lines_are h.inputs h.outputs rs.lines names.0 rs.one rs.put;
      head_at = line.at;
      inputs_at = ri.at;
      outputs_at = ro.at;
      ands_at = ra.at;
      symbols_at = rs.at;
      end = rs.end;
    })
  where
    none : (n : ℕ) → 0 + n ≡ n
    none n = omega arith

-- ---- to a file

lhs_once : (inputs ands : List ℕ) → HoldsOnce (inputs ++ ands) → HoldsOnce ands
lhs_once inputs ands once here there item a b = cancel (once (length inputs + here) (length inputs + there) item (get_behind inputs ands here ∙ a) (get_behind inputs ands there ∙ b)) where
  cancel : length inputs + here ≡ length inputs + there → here ≡ there
  cancel e = omega arith

pub ascii_read : (bytes : List ℕ) (aig : Aig) → IsAig aig → ListsAs bytes aig → IsAsciiFile bytes aig
ascii_read bytes aig graph (text, e, (names, renames)) =
    let listing = listing_of text in
    let p = text_parts bytes text e in
    let well = text_ok bytes text e in
    let lines = p.head ∷ p.inputs ++ p.outputs ++ p.ands ++ p.symbols in
    let at3 = lines_join (p.head ∷ p.inputs) p.outputs bytes p.r1 p.r2 (p.r0, p.head_at, p.inputs_at) p.outputs_at in
    let at4 = lines_join (p.head ∷ p.inputs ++ p.outputs) p.ands bytes p.r2 p.r3 at3 p.ands_at in
    let at5 = lines_join (p.head ∷ p.inputs ++ p.outputs ++ p.ands) p.symbols bytes p.r3 p.r4 at4 p.symbols_at in
    let tail = tail_text lines bytes p.r4 at5 p.end in
    record {
      graph = graph;
      listing = listing;
      names = names;
      renames = renames;
      inside = names_inside listing aig names graph renames well;
      once = lhs_once listing.inputs (map (λ (one : And). one.lhs) listing.ands) well.once;
      room = p.room;
      limit = p.limit;
      head = p.head;
      inputs = p.inputs;
      outputs = p.outputs;
      ands = p.ands;
      symbols = p.symbols;
      comment = tail.comment;
      text = in_lines lines ++ tail.comment;
      text_is = refl;
      bytes_are = elim tail.bytes_are [ inl all ↦ inl all | inr bare ↦ inr bare.0 ];
      head_line = p.head_line;
      input_lines = p.input_lines;
      output_lines = p.output_lines;
      and_lines = p.and_lines;
      symbol_lines = p.symbol_lines;
      comment_is = tail.is;
    }

pub ascii_in_order : (bytes : List ℕ) (aig : Aig) → IsAig aig → ListsInOrder bytes aig → IsAsciiInOrder bytes aig
unfolding ascii_read
ascii_in_order bytes aig graph (text, e, (names, renames, first)) = (ascii_read bytes aig graph (text, e, (names, renames)), first)

-- ---- from a file

pub join_some : (one two : List (List ℕ)) → AllSome one → AllSome two → AllSome (one ++ two)
join_some [] two a b = b
join_some (x ∷ one) two a b = (a.0, join_some one two a.1 b)

pub ands_some : (lines : List (List ℕ)) (ands : List And) → AllZip IsAndLine lines ands → AllSome lines
ands_some [] ands all = tt
ands_some (line ∷ lines) [] all = absurd all
ands_some (line ∷ lines) (one ∷ ands) all =
    let w = all.0 in
    let some = field_some w.lhs one.lhs w.lhs_writes in
    let len : length line ≡ length w.lhs + length (in_fields (w.rhs0 ∷ w.rhs1 ∷ [])) = ap length w.line_is ∙ length-append w.lhs (in_fields (w.rhs0 ∷ w.rhs1 ∷ [])) in
    (omega arith, ands_some lines ands all.1)

parts_of : (bytes : List ℕ) (aig : Aig) (f : IsAsciiFile bytes aig) → TextParts bytes f.listing
parts_of bytes aig f =
    let tail = tail_of f.bytes_are in
    let p5 = lines_part (f.head ∷ f.inputs ++ f.outputs ++ f.ands) f.symbols bytes tail.rest tail.at in
    let p4 = lines_part (f.head ∷ f.inputs ++ f.outputs) f.ands bytes p5.0 p5.1 in
    let p3 = lines_part (f.head ∷ f.inputs) f.outputs bytes p4.0 p4.1 in
    record {
      head = f.head;
      inputs = f.inputs;
      outputs = f.outputs;
      ands = f.ands;
      symbols = f.symbols;
      r0 = p3.1.0;
      r1 = p3.0;
      r2 = p4.0;
      r3 = p5.0;
      r4 = tail.rest;
      room = f.room;
      limit = f.limit;
      head_line = f.head_line;
      input_lines = f.input_lines;
      output_lines = f.output_lines;
      and_lines = f.and_lines;
      symbol_lines = f.symbol_lines;
      head_at = p3.1.1;
      inputs_at = p3.1.2;
      outputs_at = p3.2;
      ands_at = p4.2;
      symbols_at = p5.2;
      end = tail.end;
    }
  where
    head_long : 0 < length f.head
    head_long = (let len = ap length f.head_line.line_is in omega arith)

    some : AllSome (f.head ∷ f.inputs ++ f.outputs ++ f.ands ++ f.symbols)
    some =
        join_some (f.head ∷ f.inputs ++ f.outputs ++ f.ands) f.symbols
        (join_some (f.head ∷ f.inputs ++ f.outputs) f.ands
        (join_some (f.head ∷ f.inputs) f.outputs (head_long, all_some f.inputs f.listing.inputs f.input_lines) (all_some f.outputs f.listing.outputs f.output_lines))
        (ands_some f.ands f.listing.ands f.and_lines))
        (symbols_some (f.listing.in_names, f.listing.out_names) f.symbols f.symbol_lines)

    tail_of : (bytes ≡ f.text) ⊎ LacksNewline bytes f.text → TailAt (f.head ∷ f.inputs ++ f.outputs ++ f.ands ++ f.symbols) bytes
    tail_of (inl is) = tail_at (f.head ∷ f.inputs ++ f.outputs ++ f.ands ++ f.symbols) f.comment bytes some f.comment_is (is ∙ f.text_is)
    tail_of (inr is) = tail_at_open (f.head ∷ f.inputs ++ f.outputs ++ f.ands ++ f.symbols) f.comment bytes some f.comment_is (is ∙ f.text_is)

header_of : Listing → Header
header_of listing = record { variables = listing.top; inputs = length listing.inputs; outputs = length listing.outputs; ands = length listing.ands }

-- a literal of a defined variable is in range
low_literal : (listing : Listing) → IsListing listing → (literal : ℕ) → IsDefined (defined_by listing.inputs listing.ands) literal → literal ≤ 2 * listing.top + 1
low_literal listing l literal (inl zero_is) = omega arith
low_literal listing l literal (inr (at, is)) =
    let d = l.definitions at (2 * (literal / 2)) is in
    let even = d.1 in
    let high = d.3 in
    omega arith

pub known : (defined : List ℕ) (used : Used) → IsDefined defined used.literal → use_known_at defined used ≡ given tt
known defined used (inl none) = rw (eq-eqb (used.literal / 2) 0 none) refl
known defined used (inr (at, is)) = go (used.literal / 2 == 0) (in_at defined at (2 * (used.literal / 2)) is) where
  go : (b : Bool) → is_in defined (2 * (used.literal / 2)) ≡ true → cond {A = Result (Unit {0}) Stop} (b || is_in defined (2 * (used.literal / 2))) (Ok tt) (Err (record { left = used.left; why = why.Undefined used.literal })) ≡ given {A = Unit {0}} tt
  go true h = refl
  go false h = rw h refl

pub all_known : (defined : List ℕ) (uses : List Used) → ((at literal : ℕ) → slice_get (map (λ (u : Used). u.literal) uses) at ≡ Some literal → IsDefined defined literal) → known_at defined uses ≡ given tt
all_known defined [] each = refl
all_known defined (used ∷ uses) each = rw (known defined used (each 0 used.literal refl)) (all_known defined uses (λ at literal is. each (suc at) literal is))

pub uses_known : (defined : List ℕ) (lines : List Line) → ((at : ℕ) (one : And) → slice_get (map and_of lines) at ≡ Some one → IsDefined defined one.rhs0 × IsDefined defined one.rhs1) → known_at defined (uses_of lines) ≡ given tt
uses_known defined [] each = refl
uses_known defined (line ∷ lines) each =
    let both = each 0 (and_of line) refl in
    rw (known defined line.rhs0 both.0, known defined line.rhs1 both.1) (uses_known defined lines (λ at one is. each (suc at) one is))

abbrev list_of : ℕ → List ℕ → List And → List ℕ → Entries → Entries → Listing
list_of top inputs ands outputs ins outs = record { top = top; inputs = inputs; ands = ands; outputs = outputs; in_names = ins; out_names = outs }

-- A text that lists this.
record TextOf (bytes : List ℕ) (listing : Listing) : Type 0 where
  text : Text
  read : text_at bytes ≡ given text
  lists : listing_of text ≡ listing

pub same_map : (xs ys : List ℕ) → map (λ (x : ℕ). x) xs ≡ ys → xs ≡ ys
same_map [] ys e = e
same_map (x ∷ xs) [] e = absurd cc
same_map (x ∷ xs) (y ∷ ys) e = ap (λ (z : ℕ). z ∷ xs) (first x y (map (λ (x : ℕ). x) xs) ys e) ∙ ap (λ (zs : List ℕ). y ∷ zs) (same_map xs ys (rest x y (map (λ (x : ℕ). x) xs) ys e)) where
  head_of : List ℕ → ℕ
  head_of [] = 0
  head_of (z ∷ zs) = z

  tail_of : List ℕ → List ℕ
  tail_of [] = []
  tail_of (z ∷ zs) = zs

  first : (a b : ℕ) (us vs : List ℕ) → a ∷ us ≡ b ∷ vs → a ≡ b
  first a b us vs h = ap head_of h

  rest : (a b : ℕ) (us vs : List ℕ) → a ∷ us ≡ b ∷ vs → us ≡ vs
  rest a b us vs h = ap tail_of h

pub lhs_map : (lines : List Line) (ands : List And) → map and_of lines ≡ ands → lhs_of lines ≡ lhs_of_all ands
lhs_map lines ands e = sym (fused lines) ∙ ap lhs_of_all e

text_again : (bytes : List ℕ) (listing : Listing) → TextParts bytes listing → IsListing listing → TextOf bytes listing
unfolding text_at text_of header_of
text_again bytes listing p l =
    let h = header_of listing in
    let top = listing.top in
    let head : header_at form.Ascii bytes ≡ given (h, p.r0) = head_written form.Ascii bytes h p.r0 p.head p.head_line p.head_at p.limit (le-leb (length listing.inputs + length listing.ands) top p.room) in
    let good : AreGood top (listing.inputs ++ lhs_of_all listing.ands) = (l.definitions, l.once) in
    let wi = more_written WritesNumber (λ (x : ℕ). x) (λ (front bs : List ℕ). AreGood top (front ++ bs)) (input_at top) (input_written top) p.inputs listing.inputs [] p.r0 p.r1 (front_good top listing.inputs (lhs_of_all listing.ands) good) p.input_lines p.inputs_at in
    let inputs : wi.items ≡ listing.inputs = same_map wi.items listing.inputs wi.same in
    let wo = more_written WritesNumber (λ (u : Used). u.literal) (λ (front : List Used) (bs : List ℕ). AreLow top bs) (λ front. output_at top) (output_written top) p.outputs listing.outputs [] p.r1 p.r2 (λ at literal is. low_literal listing l literal (l.outputs at literal is)) p.output_lines p.outputs_at in
    let wa = more_written IsAndLine and_of (AreNewAnds top wi.items) (λ (front : List Line). and_line_at top (wi.items ++ lhs_of front)) (and_line_written top wi.items) p.ands listing.ands [] p.r2 p.r3 (first_ands top wi.items listing inputs good l) p.and_lines p.ands_at in
    let sizes_in = l.in_names in
    let sizes_out = l.out_names in
    let put = lines_put (length listing.inputs) (length listing.outputs) p.symbols (listing.in_names, listing.out_names) sizes_in sizes_out p.symbol_lines in
    let one = lines_one p.symbols (listing.in_names, listing.out_names) p.symbol_lines.each in
    let names : symbols_at (length p.r3) (replicate (length listing.inputs) None, replicate (length listing.outputs) None) p.r3 ≡ given (listing.in_names, listing.out_names) =
    symbols_written p.symbols (length p.r3) (replicate (length listing.inputs) None, replicate (length listing.outputs) None) (listing.in_names, listing.out_names) p.r3 p.r4 p.symbols_at p.end put one (le_self (length p.r3)) in
    let defined : wi.items ++ lhs_of wa.items ≡ defined_by listing.inputs listing.ands = ap (λ (x : List ℕ). x ++ lhs_of wa.items) inputs ∙ ap (λ (x : List ℕ). listing.inputs ++ x) (lhs_map wa.items listing.ands wa.same) in
    let outputs_known : known_at (wi.items ++ lhs_of wa.items) wo.items ≡ given tt =
    all_known (wi.items ++ lhs_of wa.items) wo.items (λ at literal is. subst (λ (d : List ℕ). IsDefined d literal) (sym defined) (l.outputs at literal (ap (λ (x : List ℕ). slice_get x at) (sym wo.same) ∙ is))) in
    let operands_known : known_at (wi.items ++ lhs_of wa.items) (uses_of wa.items) ≡ given tt =
    uses_known (wi.items ++ lhs_of wa.items) wa.items (λ at one is. subst (λ (d : List ℕ). IsDefined d one.rhs0 × IsDefined d one.rhs1) (sym defined) (l.operands at one (ap (λ (x : List And). slice_get x at) (sym wa.same) ∙ is))) in
    record {
      text = text_of top wi.items wo.items wa.items (length p.r2) listing.in_names listing.out_names;
      read = rw (head, wi.is, wo.is, wa.is, names, outputs_known, operands_known) refl;
      lists = listed top wi.items listing.inputs (map and_of wa.items) listing.ands (map (λ (u : Used). u.literal) wo.items) listing.outputs listing.in_names listing.out_names inputs wa.same wo.same;
    }
  where
    front_good : (top : ℕ) (inputs more : List ℕ) → AreGood top (inputs ++ more) → AreGood top inputs
    front_good top inputs more good = (
      λ at literal is. good.0 at literal (get_more inputs more at literal is),
      λ here there item a b. good.1 here there item (get_more inputs more here item a) (get_more inputs more there item b),
    )

    first_ands : (top : ℕ) (items : List ℕ) (listing : Listing) → items ≡ listing.inputs → AreGood top (listing.inputs ++ lhs_of_all listing.ands) → IsListing listing → AreNewAnds listing.top items [] listing.ands
    first_ands top items listing same good l = (
      subst (λ (x : List ℕ). AreGood listing.top (x ++ lhs_of_all listing.ands)) (sym (append-nil items ∙ same)) (l.definitions, l.once),
      λ at one is. (let both = l.operands at one is in (low_literal listing l one.rhs0 both.0, low_literal listing l one.rhs1 both.1)),
    )

    listed : (top : ℕ) (i j : List ℕ) (a b : List And) (o q : List ℕ) (ins outs : Entries) → i ≡ j → a ≡ b → o ≡ q → list_of top i a o ins outs ≡ list_of top j b q ins outs
    listed top i j a b o q ins outs x y z = ap (λ (w : List ℕ). list_of top w a o ins outs) x ∙ ap (λ (w : List And). list_of top j w o ins outs) y ∙ ap (λ (w : List ℕ). list_of top j b w ins outs) z

pub ascii_written : (bytes : List ℕ) (aig : Aig) → IsAsciiFile bytes aig → ListsAs bytes aig
ascii_written bytes aig f =
    let well = is_listing f.listing aig f.names (record { graph = f.graph; renames = f.renames; inside = f.inside; once = f.once; limit = f.limit }) in
    let t = text_again bytes f.listing (parts_of bytes aig f) well in
    (t.text, t.read, (f.names, subst (λ (x : Listing). Renames x aig f.names) (sym t.lists) f.renames))

-- what a spelled file lists
pub ascii_listing : (bytes : List ℕ) (aig : Aig) (f : IsAsciiFile bytes aig) → (text : Text) × (text_at bytes ≡ given text) × (listing_of text ≡ f.listing)
ascii_listing bytes aig f =
    let well = is_listing f.listing aig f.names (record { graph = f.graph; renames = f.renames; inside = f.inside; once = f.once; limit = f.limit }) in
    let t = text_again bytes f.listing (parts_of bytes aig f) well in
    (t.text, t.read, t.lists)
