-- The symbols that lines put, as a set.
use Rattle.std.proofs.Common.{◌≡◌, ◌≢◌, ◌⊎◌, ◌∙◌, inl, inr, ◌<◌, ◌==◌, ℕ, Bool, true, false, zero, suc, refl, ap, sym, subst, arith, List, [], ◌∷◌, length, length-set, Option, None, Some}
use Rattle.std.specs.Prelude.{slice_get, slice_set, replicate}
use Rattle.std.proofs.lemmas.Bool.{eqb-true, eqb-false}
use Rattle.std.proofs.lemmas.Option.{same_Some, slice_get_within}
use Rattle.std.proofs.lemmas.List.{length-replicate}
use Rattle.aiger_order.proofs.Lists.{set_same, set_other, get_inside, get_replicate}
use Rattle.aiger_parts.specs.Symbols.{Entries}
use Rattle.aiger_read.specs.Spelled.{IsSymbolLine, IsSymbol, AreSymbolLines}
use Rattle.aiger_read.proofs.SymbolFiles.{Put, AllPut, AllOneLine, line_read, line_written, one_symbol, symbol_line_one}

-- ---- one more

some_some : (x : Option (List ℕ)) (n : List ℕ) → Some x ≡ Some (Some n) → x ≡ Some n
some_some x n e = same_Some x (Some n) e

not_none : (n : List ℕ) (o : Option (Option (List ℕ))) → o ≡ Some None → o ≡ Some (Some n) → ⊥
not_none n o free is = let bad : Some None ≡ Some (Some n) = sym free ∙ is in absurd cc

-- what a write to a free entry leaves
entry_kept : (entries : Entries) (place p : ℕ) (name n : List ℕ) → slice_get entries place ≡ Some None → slice_get entries p ≡ Some (Some n) → slice_get (slice_set entries place (Some name)) p ≡ Some (Some n)
entry_kept entries place p name n free is =
    let ne : place ≢ p = λ e. not_none n (slice_get entries p) (ap (slice_get entries) (sym e) ∙ free) is in
    set_other entries place p (Some name) ne ∙ is

entry_new : (entries : Entries) (place : ℕ) (name : List ℕ) → slice_get entries place ≡ Some None → slice_get (slice_set entries place (Some name)) place ≡ Some (Some name)
entry_new entries place name free = set_same entries place (Some name) (slice_get_within entries place None free)

entry_back : (entries : Entries) (place p : ℕ) (name n : List ℕ) → slice_get entries place ≡ Some None → slice_get (slice_set entries place (Some name)) p ≡ Some (Some n) → (slice_get entries p ≡ Some (Some n)) ⊎ ((p ≡ place) × (n ≡ name))
entry_back entries place p name n free is = go (place == p) refl where
  go : (t : Bool) → (place == p) ≡ t → (slice_get entries p ≡ Some (Some n)) ⊎ ((p ≡ place) × (n ≡ name))
  go true e =
      let same : place ≡ p = eqb-true place p e in
      let there : slice_get (slice_set entries place (Some name)) p ≡ Some (Some name) = ap (slice_get (slice_set entries place (Some name))) (sym same) ∙ entry_new entries place name free in
      inr (sym same, same_Some n name (some_both (Some n) (Some name) (sym is ∙ there)))
    where
      some_both : (x y : Option (List ℕ)) → Some x ≡ Some y → x ≡ y
      some_both x y h = same_Some x y h
  go false e = inl (sym (set_other entries place p (Some name) (eqb-false place p e)) ∙ is)

put_new : (names next : Entries × Entries) (kind place : ℕ) (name : List ℕ) → Put names kind place name next → IsSymbol next kind place name
put_new names next kind place name (inl (k, free, is)) = inl (k, ap (λ (b : Entries × Entries). slice_get b.0 place) is ∙ entry_new names.0 place name free)
put_new names next kind place name (inr (k, free, is)) = inr (k, ap (λ (b : Entries × Entries). slice_get b.1 place) is ∙ entry_new names.1 place name free)

put_kept : (names next : Entries × Entries) (kind place k p : ℕ) (name n : List ℕ) → Put names kind place name next → IsSymbol names k p n → IsSymbol next k p n
put_kept names next kind place k p name n (inl (kind_is, free, is)) (inl (k_is, there)) = inl (k_is, ap (λ (b : Entries × Entries). slice_get b.0 p) is ∙ entry_kept names.0 place p name n free there)
put_kept names next kind place k p name n (inl (kind_is, free, is)) (inr (k_is, there)) = inr (k_is, ap (λ (b : Entries × Entries). slice_get b.1 p) is ∙ there)
put_kept names next kind place k p name n (inr (kind_is, free, is)) (inl (k_is, there)) = inl (k_is, ap (λ (b : Entries × Entries). slice_get b.0 p) is ∙ there)
put_kept names next kind place k p name n (inr (kind_is, free, is)) (inr (k_is, there)) = inr (k_is, ap (λ (b : Entries × Entries). slice_get b.1 p) is ∙ entry_kept names.1 place p name n free there)

abbrev IsThis : ℕ → ℕ → List ℕ → ℕ → ℕ → List ℕ → Type 0
IsThis kind place name k p n = (k ≡ kind) × (p ≡ place) × (n ≡ name)

put_back : (names next : Entries × Entries) (kind place k p : ℕ) (name n : List ℕ) → Put names kind place name next → IsSymbol next k p n → IsSymbol names k p n ⊎ IsThis kind place name k p n
put_back names next kind place k p name n (inl (kind_is, free, is)) (inl (k_is, there)) =
    elim (entry_back names.0 place p name n free (ap (λ (b : Entries × Entries). slice_get b.0 p) (sym is) ∙ there)) [
      | inl old ↦ inl (inl (k_is, old))
      | inr new ↦ inr (k_is ∙ sym kind_is, new.0, new.1)
    ]
put_back names next kind place k p name n (inl (kind_is, free, is)) (inr (k_is, there)) = inl (inr (k_is, ap (λ (b : Entries × Entries). slice_get b.1 p) (sym is) ∙ there))
put_back names next kind place k p name n (inr (kind_is, free, is)) (inl (k_is, there)) = inl (inl (k_is, ap (λ (b : Entries × Entries). slice_get b.0 p) (sym is) ∙ there))
put_back names next kind place k p name n (inr (kind_is, free, is)) (inr (k_is, there)) =
    elim (entry_back names.1 place p name n free (ap (λ (b : Entries × Entries). slice_get b.1 p) (sym is) ∙ there)) [
      | inl old ↦ inl (inr (k_is, old))
      | inr new ↦ inr (k_is ∙ sym kind_is, new.0, new.1)
    ]

IsFresh : Entries × Entries → ℕ → ℕ → Type 0
IsFresh names k p = (n : List ℕ) → IsSymbol names k p n → ⊥

two_kinds : (k : ℕ) → k ≡ 105 → k ≡ 111 → ⊥
two_kinds k a b = absurd (omega arith)

put_fresh : (names next : Entries × Entries) (kind place : ℕ) (name : List ℕ) → Put names kind place name next → IsFresh names kind place
unfolding IsFresh
put_fresh names next kind place name (inl (k, free, is)) n (inl (l, there)) = not_none n (slice_get names.0 place) free there
put_fresh names next kind place name (inl (k, free, is)) n (inr (l, there)) = two_kinds kind k l
put_fresh names next kind place name (inr (k, free, is)) n (inl (l, there)) = two_kinds kind l k
put_fresh names next kind place name (inr (k, free, is)) n (inr (l, there)) = not_none n (slice_get names.1 place) free there

put_size : (names next : Entries × Entries) (kind place : ℕ) (name : List ℕ) → Put names kind place name next → (length next.0 ≡ length names.0) × (length next.1 ≡ length names.1)
put_size names next kind place name (inl (k, free, is)) = (ap (λ (b : Entries × Entries). length b.0) is ∙ length-set names.0 place (Some name), ap (λ (b : Entries × Entries). length b.1) is)
put_size names next kind place name (inr (k, free, is)) = (ap (λ (b : Entries × Entries). length b.0) is, ap (λ (b : Entries × Entries). length b.1) is ∙ length-set names.1 place (Some name))

-- ---- all of them

-- Lines lead from some entries to others.
record Leads (names after : Entries × Entries) (lines : List (List ℕ)) : Type 0 where
  first_size : length names.0 ≡ length after.0
  second_size : length names.1 ≡ length after.1
  kept : (k p : ℕ) (n : List ℕ) → IsSymbol names k p n → IsSymbol after k p n
  each : (at : ℕ) (line : List ℕ) → slice_get lines at ≡ Some line → (k p : ℕ) × (n : List ℕ) × IsSymbol after k p n × IsSymbolLine k p n line × IsFresh names k p
  all : (k p : ℕ) (n : List ℕ) → IsSymbol after k p n → IsSymbol names k p n ⊎ ((at : ℕ) × (line : List ℕ) × (slice_get lines at ≡ Some line) × IsSymbolLine k p n line)
  once : (here there k p : ℕ) (n m line other : List ℕ) → slice_get lines here ≡ Some line → slice_get lines there ≡ Some other → IsSymbolLine k p n line → IsSymbolLine k p m other → here ≡ there

leads_none : (names after : Entries × Entries) → names ≡ after → Leads names after []
leads_none names after e = record {
  first_size = ap (λ (b : Entries × Entries). length b.0) e;
  second_size = ap (λ (b : Entries × Entries). length b.1) e;
  kept = λ k p n is. subst (λ (b : Entries × Entries). IsSymbol b k p n) e is;
  each = λ at line is. absurd cc;
  all = λ k p n is. inl (subst (λ (b : Entries × Entries). IsSymbol b k p n) (sym e) is);
  once = λ here there k p n m line other a b s t. absurd cc;
}

some_line : (line other : List ℕ) → Some line ≡ Some other → line ≡ other
some_line line other e = same_Some line other e

leads_more : (names next after : Entries × Entries) (kind place : ℕ) (name line : List ℕ) (lines : List (List ℕ)) → IsSymbolLine kind place name line → Put names kind place name next → Leads next after lines → Leads names after (line ∷ lines)
unfolding IsFresh
leads_more names next after kind place name line lines s put leads = record {
  first_size = sym (put_size names next kind place name put).0 ∙ leads.first_size;
  second_size = sym (put_size names next kind place name put).1 ∙ leads.second_size;
  kept = λ k p n is. leads.kept k p n (put_kept names next kind place k p name n put is);
  each = each;
  all = all;
  once = once;
} where
  each : (at : ℕ) (other : List ℕ) → slice_get (line ∷ lines) at ≡ Some other → (k p : ℕ) × (n : List ℕ) × IsSymbol after k p n × IsSymbolLine k p n other × IsFresh names k p
  each zero other is = (kind, place, name, leads.kept kind place name (put_new names next kind place name put), subst (IsSymbolLine kind place name) (some_line line other is) s, put_fresh names next kind place name put)
  each (suc at) other is =
      let e = leads.each at other is in
      (e.0, e.1, e.2, e.3, e.4, λ n there. e.5 n (put_kept names next kind place e.0 e.1 name n put there))

  all : (k p : ℕ) (n : List ℕ) → IsSymbol after k p n → IsSymbol names k p n ⊎ ((at : ℕ) × (other : List ℕ) × (slice_get (line ∷ lines) at ≡ Some other) × IsSymbolLine k p n other)
  all k p n is = elim (leads.all k p n is) [
    | inl there ↦ elim (put_back names next kind place k p name n put there) [
      | inl old ↦ inl old
      | inr this ↦ inr (0, line, refl, subst (λ (x : ℕ). IsSymbolLine x p n line) (sym this.0) (subst (λ (x : ℕ). IsSymbolLine kind x n line) (sym this.1) (subst (λ (x : List ℕ). IsSymbolLine kind place x line) (sym this.2) s)))
    ]
    | inr found ↦ inr (suc found.0, found.1, found.2, found.3)
  ]

  -- no later line is of the same input or output
  apart : (at k p : ℕ) (n m other : List ℕ) → slice_get lines at ≡ Some other → IsSymbolLine k p n line → IsSymbolLine k p m other → ⊥
  apart at k p n m other is one two =
      let e = leads.each at other is in
      let here = one_symbol kind k place p name n line s one in
      let there = one_symbol e.0 k e.1 p e.2 m other e.4 two in
      let new = put_new names next kind place name put in
      e.5 name (subst (λ (x : ℕ). IsSymbol next x e.1 name) (here.0 ∙ sym there.0) (subst (λ (x : ℕ). IsSymbol next kind x name) (here.1 ∙ sym there.1) new))

  once : (here there k p : ℕ) (n m one two : List ℕ) → slice_get (line ∷ lines) here ≡ Some one → slice_get (line ∷ lines) there ≡ Some two → IsSymbolLine k p n one → IsSymbolLine k p m two → here ≡ there
  once zero zero k p n m one two a b t u = refl
  once zero (suc there) k p n m one two a b t u = absurd (apart there k p n m two b (subst (IsSymbolLine k p n) (sym (some_line line one a)) t) u)
  once (suc here) zero k p n m one two a b t u = absurd (apart here k p m n one a (subst (IsSymbolLine k p m) (sym (some_line line two b)) u) t)
  once (suc here) (suc there) k p n m one two a b t u = ap suc (leads.once here there k p n m one two a b t u)

leads : (lines : List (List ℕ)) (names after : Entries × Entries) → AllOneLine lines → AllPut names lines after → Leads names after lines
leads [] names after one e = leads_none names after e
leads (line ∷ lines) names after one (next, is, more) =
    let r = line_read names next line one.0 is in
    leads_more names next after r.kind r.place r.name line lines r.is r.put (leads lines next after one.1 more)

-- ---- and back

same_lists : (xs ys : Entries) → length xs ≡ length ys → ((i : ℕ) (x y : Option (List ℕ)) → slice_get xs i ≡ Some x → slice_get ys i ≡ Some y → x ≡ y) → xs ≡ ys
same_lists [] [] e h = refl
same_lists [] (y ∷ ys) e h = absurd (omega arith)
same_lists (x ∷ xs) [] e h = absurd (omega arith)
same_lists (x ∷ xs) (y ∷ ys) e h =
    let first : x ≡ y = h 0 x y refl refl in
    let rest : xs ≡ ys = same_lists xs ys (omega arith) (λ i a b p q. h (suc i) a b p q) in
    ap (λ (z : Option (List ℕ)). z ∷ xs) first ∙ ap (λ (zs : Entries). y ∷ zs) rest

same_pair : (x y : Entries × Entries) → x.0 ≡ y.0 → x.1 ≡ y.1 → x ≡ y
same_pair x y a b = ap (λ (f : Entries). (f, x.1)) a ∙ ap (λ (s : Entries). (y.0, s)) b

put_none : (names after : Entries × Entries) → Leads names after [] → names ≡ after
put_none names after leads = same_pair names after (same_lists names.0 after.0 leads.first_size first) (same_lists names.1 after.1 leads.second_size second) where
  no_line : (k p : ℕ) (n : List ℕ) → IsSymbol names k p n ⊎ ((at : ℕ) × (line : List ℕ) × (slice_get [] at ≡ Some line) × IsSymbolLine k p n line) → IsSymbol names k p n
  no_line k p n (inl is) = is
  no_line k p n (inr (at, line, is, s)) = absurd cc

  first : (i : ℕ) (x y : Option (List ℕ)) → slice_get names.0 i ≡ Some x → slice_get after.0 i ≡ Some y → x ≡ y
  first i None None a b = refl
  first i (Some n) y a b = elim (leads.kept 105 i n (inl (refl, a))) [ inl is ↦ sym (some_some y n (sym b ∙ is.1)) | inr is ↦ absurd (two_kinds 105 refl is.0) ]
  first i None (Some n) a b = elim (no_line 105 i n (leads.all 105 i n (inl (refl, b)))) [ inl is ↦ absurd (not_none n (slice_get names.0 i) a is.1) | inr is ↦ absurd (two_kinds 105 refl is.0) ]

  second : (i : ℕ) (x y : Option (List ℕ)) → slice_get names.1 i ≡ Some x → slice_get after.1 i ≡ Some y → x ≡ y
  second i None None a b = refl
  second i (Some n) y a b = elim (leads.kept 111 i n (inr (refl, a))) [ inl is ↦ absurd (two_kinds 111 is.0 refl) | inr is ↦ sym (some_some y n (sym b ∙ is.1)) ]
  second i None (Some n) a b = elim (no_line 111 i n (leads.all 111 i n (inr (refl, b)))) [ inl is ↦ absurd (two_kinds 111 is.0 refl) | inr is ↦ absurd (not_none n (slice_get names.1 i) a is.1) ]

-- the entry of a symbol is free before it
free_entry : (entries after : Entries) (place : ℕ) (name : List ℕ) → length entries ≡ length after → slice_get after place ≡ Some (Some name) → ((n : List ℕ) → slice_get entries place ≡ Some (Some n) → ⊥) → slice_get entries place ≡ Some None
free_entry entries after place name size is fresh =
    let lt : place < length after = slice_get_within after place (Some name) is in
    let found = get_inside entries place (omega arith) in
    go found.0 found.1
  where
    go : (x : Option (List ℕ)) → slice_get entries place ≡ Some x → slice_get entries place ≡ Some None
    go None h = h
    go (Some n) h = absurd (fresh n h)

put_made : (names after : Entries × Entries) (lines : List (List ℕ)) (kind place : ℕ) (name : List ℕ) → Leads names after lines → IsSymbol after kind place name → IsFresh names kind place → (next : Entries × Entries) × Put names kind place name next
unfolding IsFresh
put_made names after lines kind place name leads (inl (k, is)) fresh = ((slice_set names.0 place (Some name), names.1), inl (k, free_entry names.0 after.0 place name leads.first_size is (λ n there. fresh n (inl (k, there))), refl))
put_made names after lines kind place name leads (inr (k, is)) fresh = ((names.0, slice_set names.1 place (Some name)), inr (k, free_entry names.1 after.1 place name leads.second_size is (λ n there. fresh n (inr (k, there))), refl))

leads_rest : (names next after : Entries × Entries) (kind place : ℕ) (name line : List ℕ) (lines : List (List ℕ)) → IsSymbolLine kind place name line → IsSymbol after kind place name → Put names kind place name next → Leads names after (line ∷ lines) → Leads next after lines
unfolding IsFresh
leads_rest names next after kind place name line lines s is put leads = record {
  first_size = (put_size names next kind place name put).0 ∙ leads.first_size;
  second_size = (put_size names next kind place name put).1 ∙ leads.second_size;
  kept = λ k p n there. elim (put_back names next kind place k p name n put there) [
    | inl old ↦ leads.kept k p n old
    | inr this ↦ as_this k p n this
  ];
  each = λ at other there.
      let e = leads.each (suc at) other there in (
        e.0,
        e.1,
        e.2,
        e.3,
        e.4,
        λ n new. elim (put_back names next kind place e.0 e.1 name n put new) [
          | inl old ↦ e.5 n old
          | inr this ↦ not_first at (leads.once 0 (suc at) kind place name e.2 line other refl there s (subst (λ (x : ℕ). IsSymbolLine x place e.2 other) this.0 (subst (λ (x : ℕ). IsSymbolLine e.0 x e.2 other) this.1 e.4)))
        ],
      );
  all = λ k p n there. elim (leads.all k p n there) [
    | inl old ↦ inl (put_kept names next kind place k p name n put old)
    | inr found ↦ from k p n found.0 found.1 found.2 found.3
  ];
  once = λ here there k p n m one two a b t u. down here there (leads.once (suc here) (suc there) k p n m one two a b t u);
} where
  not_first : (at : ℕ) → 0 ≡ suc at → ⊥
  not_first at e = absurd (omega arith)

  down : (a b : ℕ) → suc a ≡ suc b → a ≡ b
  down a b e = omega arith

  as_this : (k p : ℕ) (n : List ℕ) → IsThis kind place name k p n → IsSymbol after k p n
  as_this k p n this = subst (λ (x : ℕ). IsSymbol after x p n) (sym this.0) (subst (λ (x : ℕ). IsSymbol after kind x n) (sym this.1) (subst (λ (x : List ℕ). IsSymbol after kind place x) (sym this.2) is))

  from : (k p : ℕ) (n : List ℕ) (at : ℕ) (other : List ℕ) → slice_get (line ∷ lines) at ≡ Some other → IsSymbolLine k p n other → IsSymbol next k p n ⊎ ((i : ℕ) × (l : List ℕ) × (slice_get lines i ≡ Some l) × IsSymbolLine k p n l)
  from k p n zero other a t =
      let same = one_symbol kind k place p name n line s (subst (IsSymbolLine k p n) (sym (some_line line other a)) t) in
      inl (subst (λ (x : ℕ). IsSymbol next x p n) same.0 (subst (λ (x : ℕ). IsSymbol next kind x n) same.1 (subst (λ (x : List ℕ). IsSymbol next kind place x) same.2 (put_new names next kind place name put))))
  from k p n (suc at) other a t = inr (at, other, a, t)

put_all : (lines : List (List ℕ)) (names after : Entries × Entries) → Leads names after lines → AllPut names lines after
put_all [] names after leads = put_none names after leads
put_all (line ∷ lines) names after leads =
    let e = leads.each 0 line refl in
    let next = put_made names after (line ∷ lines) e.0 e.1 e.2 leads e.3 e.5 in
    (next.0, line_written names next.0 e.0 e.1 e.2 line e.4 next.1, put_all lines next.0 after (leads_rest names next.0 after e.0 e.1 e.2 line lines e.4 e.3 next.1 leads))

-- ---- from no symbols

no_symbols : (inputs outputs k p : ℕ) (n : List ℕ) → IsSymbol (replicate inputs None, replicate outputs None) k p n → ⊥
no_symbols inputs outputs k p n (inl (k_is, is)) = bad n (get_replicate inputs None p (Some n) is) where
  bad : (m : List ℕ) → None ≡ Some m → ⊥
  bad m e = absurd cc
no_symbols inputs outputs k p n (inr (k_is, is)) = bad n (get_replicate outputs None p (Some n) is) where
  bad : (m : List ℕ) → None ≡ Some m → ⊥
  bad m e = absurd cc

pub lines_are : (inputs outputs : ℕ) (lines : List (List ℕ)) (after : Entries × Entries) → AllOneLine lines → AllPut (replicate inputs None, replicate outputs None) lines after → AreSymbolLines after lines
lines_are inputs outputs lines after one put =
    let l = leads lines (replicate inputs None, replicate outputs None) after one put in
    record {
      each = λ at line is. let e = l.each at line is in (e.0, e.1, e.2, e.3, e.4);
      all = λ k p n is. elim (l.all k p n is) [ inl none ↦ absurd (no_symbols inputs outputs k p n none) | inr found ↦ found ];
      once = λ here there k p n m line other a b s t. l.once here there k p n m line other a b s t;
    }

pub lines_put : (inputs outputs : ℕ) (lines : List (List ℕ)) (after : Entries × Entries) → length after.0 ≡ inputs → length after.1 ≡ outputs → AreSymbolLines after lines → AllPut (replicate inputs None, replicate outputs None) lines after
unfolding IsFresh
lines_put inputs outputs lines after first second are = put_all lines (replicate inputs None, replicate outputs None) after (record {
  first_size = length-replicate inputs None ∙ sym first;
  second_size = length-replicate outputs None ∙ sym second;
  kept = λ k p n is. absurd (no_symbols inputs outputs k p n is);
  each = λ at line is. let e = are.each at line is in (e.0, e.1, e.2, e.3, e.4, λ n none. no_symbols inputs outputs e.0 e.1 n none);
  all = λ k p n is. inr (are.all k p n is);
  once = λ here there k p n m line other a b s t. are.once here there k p n m line other a b s t;
})

ten : (k : ℕ) → (k ≡ 105) ⊎ (k ≡ 111) → (k == 10) ≡ false
ten k (inl is) = rw is refl
ten k (inr is) = rw is refl

kind_of : (after : Entries × Entries) (k p : ℕ) (n : List ℕ) → IsSymbol after k p n → (k ≡ 105) ⊎ (k ≡ 111)
kind_of after k p n (inl is) = inl is.0
kind_of after k p n (inr is) = inr is.0

pub lines_one : (lines : List (List ℕ)) (after : Entries × Entries) → ((at : ℕ) (line : List ℕ) → slice_get lines at ≡ Some line → (kind place : ℕ) × (name : List ℕ) × IsSymbol after kind place name × IsSymbolLine kind place name line) → AllOneLine lines
lines_one [] after each = tt
lines_one (line ∷ lines) after each =
    let e = each 0 line refl in
    (symbol_line_one e.0 e.1 e.2 line (ten e.0 (kind_of after e.0 e.1 e.2 e.3)) e.4, lines_one lines after (λ at other is. each (suc at) other is))
