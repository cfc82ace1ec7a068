-- A text has one refusal, but that of the rings of modules with one first module, or of the rings of wire bits, any may be named.
use Rattle.std.proofs.Common.{◌≡◌, ◌≢◌, ◌∙◌, ◌+◌, ◌<◌, ◌≤◌, ℕ, zero, suc, inl, inr, List, [], ◌∷◌, ◌++◌, map, take, length, refl, sym, ap, subst, arith}
use Rattle.std.specs.Prelude.{Option}
use Rattle.std.proofs.lemmas.Bool.{cases_order}
use Rattle.rsfq_ids.specs.declared.table.CellTable.{CellTable}
use Rattle.verilog_lex.specs.declared.token.Token.{Token}
use Rattle.verilog_lex.specs.declared.token.LexFault.{LexFault}
use Rattle.verilog_lex.specs.declared.token.LexWhy.{LexWhy}
use Rattle.verilog_lex.specs.declared.token.LexWhy.TheVariants as why
use Rattle.verilog_lex.specs.Reads.{IsOnlyReading, IsOnlyFault, IsRefusal}
use Rattle.verilog_lex.specs.Words as lex
use Rattle.verilog_tree.specs.Words.{Word, meaning, words}
use Rattle.verilog_tree.specs.Trees.{Module}
use Rattle.verilog_tree.specs.Spelling.{SpellsSource}
use Rattle.verilog_tree.specs.Fault.{BeginsTree, IsParseFault}
use Rattle.bind_forms.specs.declared.bound.Bound.{Bound}
use Rattle.bind_forms.specs.declared.fault.BindFault.{BindFault}
use Rattle.bind_forms.specs.declared.fault.BindFault.TheVariants as bind_fault
use Rattle.bind_forms.specs.Modules.{setting}
use Rattle.bind_forms.specs.Binds.{Binds}
use Rattle.bind_forms.specs.First.{HasNoFault, IsFirstFault}
use Rattle.bind_laws.specs.Refusals.{FaultIsOne}
use Rattle.flattener.specs.declared.fault.FlatFault.{FlatFault}
use Rattle.flattener.specs.declared.fault.FlatFault.TheVariants as flat_fault
use Rattle.flattener.specs.Refused as flattening
use Rattle.loading.specs.declared.refusal.Refusal.{Refusal}
use Rattle.loading.specs.declared.refusal.Refusal.TheVariants as refusal
use Rattle.loading.specs.Named.{lex_refusal, lex_refusal_by, bind_refusal, flat_refusal}
use Rattle.loading.specs.Stages.{HasTree, HasNoTreeFor, IsRefused, AgreeButRings, token_place}
use Rattle.loading.proofs.Alone.{no_tree, no_first_fault, same_bound}

-- ---- the place where words go on with no tree

meanings : (text : List ℕ) (tokens : List Token) → map meaning (lex.words_of text tokens) ≡ words text tokens
meanings text [] = refl
meanings text (t ∷ ts) = ap (λ (ws : List Word). meaning (lex.word_of text t) ∷ ws) (meanings text ts)

-- words of which some are taken, before others
Front : List lex.Word → ℕ → List lex.Word → Type 0
Front vs k tail = (all : List lex.Word) × lex.AreSpelled all × (map meaning all ≡ take k (map meaning vs) ++ map meaning tail)

front : (vs : List lex.Word) (k : ℕ) (tail : List lex.Word) → lex.AreSpelled vs → lex.AreSpelled tail → Front vs k tail
unfolding Front
front vs zero tail s t = (tail, t, refl)
front [] (suc k) tail s t = (tail, t, refl)
front (v ∷ vs) (suc k) tail s t = let r = front vs k tail s.1 t in (v ∷ r.0, (s.0, r.1), ap (λ (ws : List Word). meaning v ∷ ws) r.2)

-- fewer of them, before what is left and the others
Fewer : List lex.Word → ℕ → ℕ → List lex.Word → Type 0
Fewer vs n k tail = (all : List lex.Word) × lex.AreSpelled all × (take n (map meaning vs) ++ map meaning all ≡ take k (map meaning vs) ++ map meaning tail)

fewer : (vs : List lex.Word) (n k : ℕ) (tail : List lex.Word) → n ≤ k → lex.AreSpelled vs → lex.AreSpelled tail → Fewer vs n k tail
unfolding Front Fewer
fewer vs zero k tail le s t = front vs k tail s t
fewer vs (suc n) zero tail le s t = absurd (omega (arith, le))
fewer [] (suc n) (suc k) tail le s t = (tail, t, refl)
fewer (v ∷ vs) (suc n) (suc k) tail le s t = let r = fewer vs n k tail (omega (arith, le)) s.1 t in (r.0, r.1, ap (λ (ws : List Word). meaning v ∷ ws) r.2)

begins_fewer : (vs : List lex.Word) (n k : ℕ) → n ≤ k → lex.AreSpelled vs → BeginsTree (take k (map meaning vs)) → BeginsTree (take n (map meaning vs))
unfolding Fewer
begins_fewer vs n k le s b = let r = fewer vs n k b.1 le s b.2 in (b.0, r.0, r.1, subst (SpellsSource b.0) (sym r.2) b.3)

not_past : (vs : List lex.Word) (one other : ℕ) → lex.AreSpelled vs → IsParseFault (map meaning vs) one → IsParseFault (map meaning vs) other → one < other → ⊥
not_past vs one other s f g less =
    let within = g.within in
    let there : one < length (map meaning vs) = omega (arith, less, within) in
    let next : one + 1 ≤ other = omega (arith, less) in
    f.there there (begins_fewer vs (one + 1) other next s g.before)

place_one : (vs : List lex.Word) (one other : ℕ) → lex.AreSpelled vs → IsParseFault (map meaning vs) one → IsParseFault (map meaning vs) other → one ≡ other
place_one vs one other s f g = elim (cases_order one other) [
  | inl same ↦ same
  | inr apart ↦ elim apart [
    | inl less ↦ absurd (not_past vs one other s f g less)
    | inr more ↦ absurd (not_past vs other one s g f more)
  ]
]

pub parse_agrees : (text : List ℕ) (tokens : List Token) (number : ℕ) → IsOnlyReading text tokens → lex.AreSpelled (lex.words_of text tokens) → IsParseFault (words text tokens) number → (other : Refusal) → other ≢ refusal.Memory → HasNoTreeFor text other →
    refusal.Parse (token_place text tokens number) ≡ other
parse_agrees text tokens number reading spelled fault (refusal.Lex other) named is = absurd (is.no_reading tokens reading.reads)
parse_agrees text tokens number reading spelled fault (refusal.Parse place) named is =
    let same : is.tokens ≡ tokens = reading.only is.tokens is.reading.reads in
    let moved : IsParseFault (words text tokens) is.number = subst (λ (ts : List Token). IsParseFault (words text ts) is.number) same is.fault in
    let back = sym (meanings text tokens) in
    let number_is : number ≡ is.number = place_one (lex.words_of text tokens) number is.number spelled (subst (λ (ws : List Word). IsParseFault ws number) back fault) (subst (λ (ws : List Word). IsParseFault ws is.number) back moved) in
    ap refusal.Parse (ap (token_place text tokens) number_is ∙ ap (λ (ts : List Token). token_place text ts is.number) (sym same) ∙ sym is.place_is)
parse_agrees text tokens number reading spelled fault (refusal.Bind other) named is = absurd is
parse_agrees text tokens number reading spelled fault (refusal.Flat other) named is = absurd is
parse_agrees text tokens number reading spelled fault refusal.Memory named is = absurd (named refl)

-- ---- lexemes

named_lex : (fault : LexFault) (w : LexWhy) → lex_refusal_by fault w ≢ refusal.Memory → lex_refusal_by fault w ≡ refusal.Lex fault
named_lex fault why.Memory named = absurd (named refl)
named_lex fault _ named = refl

one_lex : (text : List ℕ) (fault : LexFault) → IsOnlyFault text fault.offset fault.why → (other : Refusal) → other ≢ refusal.Memory → HasNoTreeFor text other → refusal.Lex fault ≡ other
one_lex text fault only (refusal.Lex other) named is =
    let e = only.only other.offset other.why is.fault in
    ap (λ (n : ℕ). refusal.Lex (record { offset = n; why = fault.why })) (sym e.0) ∙ ap (λ (w : LexWhy). refusal.Lex (record { offset = other.offset; why = w })) (sym e.1)
one_lex text fault only (refusal.Parse place) named is = absurd (only.no_reading is.tokens is.reading.reads)
one_lex text fault only (refusal.Bind other) named is = absurd is
one_lex text fault only (refusal.Flat other) named is = absurd is
one_lex text fault only refusal.Memory named is = absurd (named refl)

pub lex_agrees : (text : List ℕ) (fault : LexFault) (named_by : Refusal) → IsRefusal text fault → named_by ≡ lex_refusal fault → named_by ≢ refusal.Memory → (other : Refusal) → other ≢ refusal.Memory → HasNoTreeFor text other →
    named_by ≡ other
lex_agrees text fault named_by (inl memory) by named other known is = absurd (named (by ∙ ap (lex_refusal_by fault) memory))
lex_agrees text fault named_by (inr only) by named other known is =
    by ∙ named_lex fault fault.why (λ e. named (by ∙ e)) ∙ one_lex text fault only other known is

-- ---- all stages

pub tree_agrees : (table : CellTable) (top : Option (List ℕ)) (text : List ℕ) (one : Refusal) → HasNoTreeFor text one → one ≢ refusal.Memory → ((other : Refusal) → other ≢ refusal.Memory → HasNoTreeFor text other → one ≡ other) →
    (other : Refusal) → other ≢ refusal.Memory → IsRefused table top text other → AgreeButRings one other
tree_agrees table top text one none named agree (refusal.Lex fault) known is = inl (agree (refusal.Lex fault) known is)
tree_agrees table top text one none named agree (refusal.Parse place) known is = inl (agree (refusal.Parse place) known is)
tree_agrees table top text one none named agree (refusal.Bind fault) known is = absurd (no_tree text one is.tree none named is.has_tree)
tree_agrees table top text one none named agree (refusal.Flat fault) known is = absurd (no_tree text one is.has_bound.tree none named is.has_bound.has_tree)
tree_agrees table top text one none named agree refusal.Memory known is = absurd (known refl)

named_bind : (fault : BindFault) → bind_refusal fault ≢ refusal.Memory → bind_refusal fault ≡ refusal.Bind fault
named_bind bind_fault.Memory named = absurd (named refl)
named_bind _ named = refl

bind_agree : FaultIsOne → (table : CellTable) (top : Option (List ℕ)) (text : List ℕ) (tree : List Module) (fault : BindFault) → HasTree text tree → ((other : List Module) → HasTree text other → other ≡ tree) →
    IsFirstFault (setting tree table top) fault → (other : Refusal) → other ≢ refusal.Memory → IsRefused table top text other → AgreeButRings (refusal.Bind fault) other
bind_agree law table top text tree fault has only first (refusal.Lex other) known is = absurd (no_tree text (refusal.Lex other) tree is known has)
bind_agree law table top text tree fault has only first (refusal.Parse place) known is = absurd (no_tree text (refusal.Parse place) tree is known has)
bind_agree law table top text tree fault has only first (refusal.Bind other) known is =
    elim (law.0 (setting tree table top) fault other first (subst (λ (t : List Module). IsFirstFault (setting t table top) other) (only is.tree is.has_tree) is.first)) [
      | inl same ↦ inl (ap refusal.Bind same)
      | inr rings ↦ inr (inl (record { first = rings.first; names = rings.names; others = rings.others; one_is = ap refusal.Bind rings.why_is; other_is = ap refusal.Bind rings.other_is }))
    ]
bind_agree law table top text tree fault has only first (refusal.Flat other) known is =
    absurd (no_first_fault (setting tree table top) fault (subst (λ (t : List Module). HasNoFault (setting t table top)) (only is.has_bound.tree is.has_bound.has_tree) is.has_bound.clean) first)
bind_agree law table top text tree fault has only first refusal.Memory known is = absurd (known refl)

pub bind_agrees : FaultIsOne → (table : CellTable) (top : Option (List ℕ)) (text : List ℕ) (tree : List Module) (fault : BindFault) (named_by : Refusal) → HasTree text tree → ((other : List Module) → HasTree text other → other ≡ tree) →
    (fault ≢ bind_fault.Memory → IsFirstFault (setting tree table top) fault) → named_by ≡ bind_refusal fault → named_by ≢ refusal.Memory → (other : Refusal) → other ≢ refusal.Memory → IsRefused table top text other → AgreeButRings named_by other
bind_agrees law table top text tree fault named_by has only first by named other known is =
    let is_named : named_by ≡ refusal.Bind fault = by ∙ named_bind fault (λ e. named (by ∙ e)) in
    subst (λ (r : Refusal). AgreeButRings r other) (sym is_named) (bind_agree law table top text tree fault has only (first (λ memory. named (by ∙ ap bind_refusal memory))) other known is)

-- ---- bound forms

-- what is known of a text once it is bound
pub record IsBoundTo (table : CellTable) (top : Option (List ℕ)) (text : List ℕ) (tree : List Module) (bound : Bound) : Type 0 where
  pub has : HasTree text tree
  pub only : (other : List Module) → HasTree text other → other ≡ tree
  pub clean : HasNoFault (setting tree table top)
  pub one : (other : Bound) → Binds (setting tree table top) other → other ≡ bound

-- any refusal of it is one of the flattening
flat_alone : (table : CellTable) (top : Option (List ℕ)) (text : List ℕ) (tree : List Module) (bound : Bound) → IsBoundTo table top text tree bound → (Fact : Refusal → Type 0) →
    ((fault : FlatFault) → fault ≢ flat_fault.Memory → flattening.IsFlatFault table bound fault → Fact (refusal.Flat fault)) → (other : Refusal) → other ≢ refusal.Memory → IsRefused table top text other → Fact other
flat_alone table top text tree bound b Fact flat (refusal.Lex other) known is = absurd (no_tree text (refusal.Lex other) tree is known b.has)
flat_alone table top text tree bound b Fact flat (refusal.Parse place) known is = absurd (no_tree text (refusal.Parse place) tree is known b.has)
flat_alone table top text tree bound b Fact flat (refusal.Bind other) known is =
    absurd (no_first_fault (setting tree table top) other b.clean (subst (λ (t : List Module). IsFirstFault (setting t table top) other) (b.only is.tree is.has_tree) is.first))
flat_alone table top text tree bound b Fact flat (refusal.Flat other) known is =
    flat other is.named (subst (λ (form : Bound). flattening.IsFlatFault table form other) (same_bound table top text tree bound is.bound b.only b.one is.has_bound) is.refused)
flat_alone table top text tree bound b Fact flat refusal.Memory known is = absurd (known refl)

named_flat : (fault : FlatFault) → flat_refusal fault ≢ refusal.Memory → flat_refusal fault ≡ refusal.Flat fault
named_flat flat_fault.Memory named = absurd (named refl)
named_flat _ named = refl

pub flat_agrees : (table : CellTable) (top : Option (List ℕ)) (text : List ℕ) (tree : List Module) (bound : Bound) (fault : FlatFault) (named_by : Refusal) → IsBoundTo table top text tree bound →
    (fault ≢ flat_fault.Memory → (other : FlatFault) → other ≢ flat_fault.Memory → flattening.IsFlatFault table bound other → flattening.AgreeButRings fault other) → named_by ≡ flat_refusal fault → named_by ≢ refusal.Memory →
    (other : Refusal) → other ≢ refusal.Memory → IsRefused table top text other → AgreeButRings named_by other
flat_agrees table top text tree bound fault named_by b agree by named =
    let is_named : named_by ≡ refusal.Flat fault = by ∙ named_flat fault (λ e. named (by ∙ e)) in
    flat_alone table top text tree bound b (AgreeButRings named_by) (λ other known is. elim (agree (λ memory. named (by ∙ ap flat_refusal memory)) other known is) [
      | inl same ↦ inl (is_named ∙ ap refusal.Flat same)
      | inr rings ↦ inr (inr ((rings.0.0, is_named ∙ ap refusal.Flat rings.0.1), (rings.1.0, ap refusal.Flat rings.1.1)))
    ])

pub none_refused : (table : CellTable) (top : Option (List ℕ)) (text : List ℕ) (tree : List Module) (bound : Bound) → IsBoundTo table top text tree bound →
    ((fault : FlatFault) → fault ≢ flat_fault.Memory → flattening.IsFlatFault table bound fault → ⊥) → (other : Refusal) → other ≢ refusal.Memory → IsRefused table top text other → ⊥
none_refused table top text tree bound b none = flat_alone table top text tree bound b (λ other. ⊥) none
