-- Steps from line to line, and rings.
use Rattle.std.proofs.Common.{◌≡◌, ◌≢◌, ◌⊎◌, inl, inr, ◌∙◌, ◌<◌, ◌≤◌, ◌+◌, ◌/◌, ◌==◌, ℕ, Bool, true, false, zero, suc, refl, ap, sym, subst, arith, List, [], ◌∷◌, ◌++◌, length, length-set, append_assoc, take, drop, length-drop, ◌-◌, get_or, Option, None, Some}
use Rattle.std.specs.Prelude.{slice_get, slice_set, slice_index}
use Rattle.std.specs.List.{All}
use Rattle.std.proofs.lemmas.Bool.{eqb-true, eqb-false}
use Rattle.std.proofs.lemmas.List.{append-nil, get_or_default}
use Rattle.std.proofs.lemmas.List.Elements.{All-append, All-take, All-drop}
use Rattle.std.proofs.lemmas.Option.{same_Some, slice_get_within, get_or_from_slice_get}
use Rattle.golden_aig.specs.declared.graph.And.{And}
use Rattle.aiger_order.specs.Numbers.{Known, HoldsOnce}
use Rattle.aiger_order.specs.Listing.{AreLines}
use Rattle.aiger_order.specs.Ring.{IsLeft, IsFed, AreDefiners, IsStep, Uses, IsChain, GoesRound, BeginsAtLeast, IsRingOfAnds}
use Rattle.aiger_order.proofs.Lists.{get_more, get_last, get_cases, set_same, set_other, once_turned, once_apart}
use Rattle.aiger_order.proofs.ReadyLines.{one_line}

pub definers_more : (top n : ℕ) (lines : List And) (definers : List ℕ) (one : And) → AreLines top lines → AreDefiners top n lines definers → slice_get lines n ≡ Some one
    → AreDefiners top (n + 1) lines (slice_set definers (one.lhs / 2) n)
definers_more top n lines definers one ok d is = record {
  size = length-set definers (one.lhs / 2) n ∙ d.size;
  each = λ line other lt at. each line other lt at (line == n) refl;
} where
  each : (line : ℕ) (other : And) → line < n + 1 → slice_get lines line ≡ Some other → (t : Bool) → (line == n) ≡ t → slice_get (slice_set definers (one.lhs / 2) n) (other.lhs / 2) ≡ Some line
  each line other lt at true e =
      let same : line ≡ n = eqb-true line n e in
      let gate : one ≡ other = same_Some one other (sym is ∙ (ap (slice_get lines) (sym same) ∙ at)) in
      let size = d.size in
      let below = (ok.below n one is).0 in
      subst (λ (g : And). slice_get (slice_set definers (one.lhs / 2) n) (g.lhs / 2) ≡ Some line) gate (set_same definers (one.lhs / 2) n (omega arith) ∙ ap Some (sym same))
  each line other lt at false e =
      let ne : line ≢ n = eqb-false line n e in
      let apart : one.lhs / 2 ≢ other.lhs / 2 = λ half. ne (one_line top lines line n other one ok at is (sym half)) in
      set_other definers (one.lhs / 2) (other.lhs / 2) n apart ∙ d.each line other (omega arith) at

pub found : (top place x : ℕ) (names : List ℕ) (lines : List And) (definers : List ℕ) (one : And) → AreDefiners top (length lines) lines definers → slice_get lines place ≡ Some one
    → (x ≡ one.rhs0) ⊎ (x ≡ one.rhs1) → ¬ Known names (x / 2) → IsFed names lines x → IsLeft names lines (get_or definers (x / 2) 0) × IsStep lines place (get_or definers (x / 2) 0)
found top place x names lines definers one d is uses unknown (inl known) = absurd (unknown known)
found top place x names lines definers one d is uses unknown (inr (line, other, at, lhs)) =
    let half : other.lhs / 2 ≡ x / 2 = omega arith in
    let there : slice_get definers (x / 2) ≡ Some line = ap (slice_get definers) (sym half) ∙ d.each line other (slice_get_within lines line other at) at in
    let read : get_or definers (x / 2) 0 ≡ line = get_or_from_slice_get definers (x / 2) line 0 there in
    let used : (one.rhs0 / 2 ≡ other.lhs / 2) ⊎ (one.rhs1 / 2 ≡ other.lhs / 2) = elim uses [ inl e ↦ inl (ap (λ (y : ℕ). y / 2) (sym e) ∙ sym half) | inr e ↦ inr (ap (λ (y : ℕ). y / 2) (sym e) ∙ sym half) ] in
    subst (λ (q : ℕ). IsLeft names lines q × IsStep lines place q) (sym read)
    ((other, at, λ k. unknown (subst (Known names) half k)), (one, other, is, at, (place, one, is, refl, used)))

-- ---- chains

pub chain_more : (lines : List And) (front : List ℕ) (x y : ℕ) → IsChain lines (front ++ x ∷ []) → Uses lines x y → IsChain lines ((front ++ x ∷ []) ++ y ∷ [])
chain_more lines [] x y chain uses = (uses, tt)
chain_more lines (a ∷ []) x y chain uses = (chain.0, (uses, tt))
chain_more lines (a ∷ b ∷ more) x y chain uses = (chain.0, chain_more lines (b ∷ more) x y chain.1 uses)

pub chain_behind : (lines : List And) (front back : List ℕ) → IsChain lines (front ++ back) → IsChain lines back
chain_behind lines [] back chain = chain
chain_behind lines (a ∷ []) [] chain = tt
chain_behind lines (a ∷ []) (b ∷ back) chain = chain.1
chain_behind lines (a ∷ b ∷ more) back chain = chain_behind lines (b ∷ more) back chain.1

chain_front : (lines : List And) (front : List ℕ) (x : ℕ) (back : List ℕ) → IsChain lines (front ++ x ∷ back) → IsChain lines (front ++ x ∷ [])
chain_front lines [] x back chain = tt
chain_front lines (a ∷ []) x back chain = (chain.0, tt)
chain_front lines (a ∷ b ∷ more) x back chain = (chain.0, chain_front lines (b ∷ more) x back chain.1)

chain_join : (lines : List And) (front : List ℕ) (x : ℕ) (back : List ℕ) → IsChain lines (front ++ x ∷ []) → IsChain lines (x ∷ back) → IsChain lines (front ++ x ∷ back)
chain_join lines [] x back one two = two
chain_join lines (a ∷ []) x back one two = (one.0, two)
chain_join lines (a ∷ b ∷ more) x back one two = (one.0, chain_join lines (b ∷ more) x back one.1 two)

-- a ring that begins elsewhere
turned : (lines : List And) (front : List ℕ) (y : ℕ) (back : List ℕ) (first : ℕ) → slice_index (front ++ y ∷ back) 0 ≡ first → IsChain lines ((front ++ y ∷ back) ++ first ∷ []) → IsChain lines ((y ∷ back ++ front) ++ y ∷ [])
turned lines [] y back first e chain =
    let at : first ≡ y = sym e in
    subst (λ (b : List ℕ). IsChain lines ((y ∷ b) ++ y ∷ [])) (sym (append-nil back)) (subst (λ (f : ℕ). IsChain lines ((y ∷ back) ++ f ∷ [])) at chain)
turned lines (x ∷ front) y back first e chain =
    let at : first ≡ x = sym e in
    let whole : IsChain lines (x ∷ front ++ (y ∷ back ++ x ∷ [])) = subst (λ (f : ℕ). IsChain lines (x ∷ front ++ (y ∷ back ++ f ∷ []))) at (subst (IsChain lines) (append_assoc (x ∷ front) (y ∷ back) (first ∷ [])) chain) in
    let tail : IsChain lines ((y ∷ back) ++ x ∷ []) = chain_behind lines (x ∷ front) (y ∷ back ++ x ∷ []) whole in
    let head : IsChain lines (x ∷ front ++ y ∷ []) = chain_front lines (x ∷ front) y (back ++ x ∷ []) whole in
    subst (IsChain lines) (sym (append_assoc (y ∷ back) (x ∷ front) (y ∷ []))) (chain_join lines (y ∷ back) x (front ++ y ∷ []) tail head)

split_at : (xs : List ℕ) (m : ℕ) → m < length xs → xs ≡ take m xs ++ slice_index xs m ∷ drop (suc m) xs
split_at [] m lt = absurd (omega arith)
split_at (x ∷ xs) zero lt = refl
split_at (x ∷ xs) (suc m) lt = ap (λ (ys : List ℕ). x ∷ ys) (split_at xs m (omega arith))

drop_at : (xs : List ℕ) (m : ℕ) → m < length xs → drop m xs ≡ slice_index xs m ∷ drop (suc m) xs
drop_at [] m lt = absurd (omega arith)
drop_at (x ∷ xs) zero lt = refl
drop_at (x ∷ xs) (suc m) lt = drop_at xs m (omega arith)

all_from : (least : ℕ) (xs : List ℕ) → ((at : ℕ) → at < length xs → least ≤ slice_index xs at) → All (λ literal. least ≤ literal) xs
all_from least xs low k d lt = let le = low k lt in let same = get_or_default xs k d 0 lt in omega arith

pub turn : (lines : List And) (xs : List ℕ) (m : ℕ) → m < length xs → IsChain lines (xs ++ slice_index xs 0 ∷ []) → HoldsOnce xs → ((at : ℕ) → at < length xs → slice_index xs m ≤ slice_index xs at)
    → IsRingOfAnds lines (drop m xs ++ take m xs)
turn lines xs m lt chain once least =
    let low : ℕ → Type 0 = λ literal. slice_index xs m ≤ literal in
    let all = all_from (slice_index xs m) xs least in
    let begins = drop_at xs m lt in
    record {
      round = subst (λ (ys : List ℕ). GoesRound lines (ys ++ take m xs)) (sym begins)
          (turned lines (take m xs) (slice_index xs m) (drop (suc m) xs) (slice_index xs 0) (ap (λ (ys : List ℕ). slice_index ys 0) (sym (split_at xs m lt))) (subst (λ (ys : List ℕ). IsChain lines (ys ++ slice_index xs 0 ∷ [])) (split_at xs m lt) chain));
      least = subst (λ (ys : List ℕ). BeginsAtLeast (ys ++ take m xs)) (sym begins) (All-append low (drop (suc m) xs) (take m xs) (All-drop low (suc m) xs all) (All-take low m xs all));
      once = once_apart (drop m xs ++ take m xs) (once_turned xs m once);
    }

pub chain_dropped : (lines : List And) (xs : List ℕ) (n x : ℕ) → n ≤ length xs → IsChain lines (xs ++ x ∷ []) → IsChain lines (drop n xs ++ x ∷ [])
chain_dropped lines xs zero x le chain = chain
chain_dropped lines [] (suc n) x le chain = absurd (omega arith)
chain_dropped lines (a ∷ xs) (suc n) x le chain = chain_dropped lines xs n x (omega arith) (chain_behind lines (a ∷ []) (xs ++ x ∷ []) chain)

pub first_dropped : (xs : List ℕ) (n : ℕ) → slice_index (drop n xs) 0 ≡ slice_index xs n
first_dropped xs zero = refl
first_dropped [] (suc n) = refl
first_dropped (x ∷ xs) (suc n) = first_dropped xs n

-- ---- one line more on the way

-- each line that was met has its literal at its place on the path
abbrev pub AreMet : List And → List ℕ → List (Option ℕ) → Type 0
AreMet lines path met = (line at : ℕ) (one : And) → slice_get met line ≡ Some (Some at) → slice_get lines line ≡ Some one → slice_get path at ≡ Some one.lhs

pub met_more : (lines : List And) (path : List ℕ) (met : List (Option ℕ)) (place : ℕ) (one : And) → slice_get lines place ≡ Some one → place < length met → AreMet lines path met
    → AreMet lines (path ++ one.lhs ∷ []) (slice_set met place (Some (length path)))
met_more lines path met place one is lt old line at each seen there = go (line == place) refl where
  go : (t : Bool) → (line == place) ≡ t → slice_get (path ++ one.lhs ∷ []) at ≡ Some each.lhs
  go true e =
      let same : line ≡ place = eqb-true line place e in
      let gate : one ≡ each = same_Some one each (sym is ∙ (ap (slice_get lines) (sym same) ∙ there)) in
      let entry : Some (Some (length path)) ≡ Some (Some at) = sym (set_same met place (Some (length path)) lt) ∙ (ap (slice_get (slice_set met place (Some (length path)))) (sym same) ∙ seen) in
      let number : length path ≡ at = same_Some (length path) at (same_Some (Some (length path)) (Some at) entry) in
      ap (slice_get (path ++ one.lhs ∷ [])) (sym number) ∙ (get_last path one.lhs ∙ ap (λ (g : And). Some g.lhs) gate)
  go false e =
      let ne : line ≢ place = eqb-false line place e in
      get_more path (one.lhs ∷ []) at each.lhs (old line at each (sym (set_other met place line (Some (length path)) (λ same. ne (sym same))) ∙ seen) there)

-- each line whose literal is on the path was met there
abbrev pub AreSeen : List And → List ℕ → List (Option ℕ) → Type 0
AreSeen lines path met = (line at : ℕ) (one : And) → slice_get path at ≡ Some one.lhs → slice_get lines line ≡ Some one → slice_get met line ≡ Some (Some at)

pub seen_more : (top : ℕ) (lines : List And) (path : List ℕ) (met : List (Option ℕ)) (place : ℕ) (one : And) → AreLines top lines → slice_get lines place ≡ Some one → slice_get met place ≡ Some None → AreSeen lines path met
    → AreSeen lines (path ++ one.lhs ∷ []) (slice_set met place (Some (length path)))
seen_more top lines path met place one ok is unmet old line at each on there = elim (get_cases path one.lhs at each.lhs on) [
  | inl before ↦
      let entry = old line at each before there in
      let apart : place ≢ line = λ same. (let both : Some None ≡ Some (Some at) = sym unmet ∙ (ap (slice_get met) same ∙ entry) in absurd cc) in
      set_other met place line (Some (length path)) apart ∙ entry
  | inr last ↦
      let same : place ≡ line = one_line top lines place line one each ok is there (ap (λ (x : ℕ). x / 2) last.1) in
      let inside = slice_get_within met place None unmet in
      ap (slice_get (slice_set met place (Some (length path)))) (sym same) ∙ (set_same met place (Some (length path)) inside ∙ ap (λ (n : ℕ). Some (Some n)) (sym last.0))
]

-- the literal of a line that was not met is new on the path
pub unmet_new : (lines : List And) (path : List ℕ) (met : List (Option ℕ)) (place at : ℕ) (one : And) → slice_get lines place ≡ Some one → slice_get met place ≡ Some None → AreSeen lines path met → slice_get path at ≢ Some one.lhs
unmet_new lines path met place at one is unmet old on =
    let both : Some None ≡ Some (Some at) = sym unmet ∙ old place at one on is in
    absurd cc

-- a step leads on from the last literal of the path
pub walked : (lines : List And) (path : List ℕ) (place next : ℕ) (one other : And) → slice_get lines place ≡ Some one → slice_get lines next ≡ Some other → IsStep lines place next → IsChain lines (path ++ one.lhs ∷ [])
    → IsChain lines ((path ++ one.lhs ∷ []) ++ other.lhs ∷ [])
walked lines path place next one other is at step chain =
    let first : step.0 ≡ one = same_Some step.0 one (sym step.2 ∙ is) in
    let second : step.1 ≡ other = same_Some step.1 other (sym step.3 ∙ at) in
    chain_more lines path one.lhs other.lhs chain (subst (λ (g : And). Uses lines one.lhs g.lhs) second (subst (λ (g : And). Uses lines g.lhs step.1.lhs) first step.4))

take_all : (xs : List ℕ) (m : ℕ) → length xs ≤ m → take m xs ≡ xs
take_all [] zero le = refl
take_all [] (suc m) le = refl
take_all (x ∷ xs) zero le = absurd (omega arith)
take_all (x ∷ xs) (suc m) le = ap (λ (ys : List ℕ). x ∷ ys) (take_all xs m (omega arith))

-- the part from a place on
pub take_rest : (xs : List ℕ) (n : ℕ) → take (length xs - n) (drop n xs) ≡ drop n xs
take_rest xs n = take_all (drop n xs) (length xs - n) (let rest = length-drop n xs in omega arith)

pub closed_part : (lines : List And) (path : List ℕ) (begin : ℕ) → begin < length path → IsChain lines (path ++ slice_index path begin ∷ []) → IsChain lines (drop begin path ++ slice_index (drop begin path) 0 ∷ [])
closed_part lines path begin lt chain =
    subst (λ (x : ℕ). IsChain lines (drop begin path ++ x ∷ [])) (sym (first_dropped path begin)) (chain_dropped lines path begin (slice_index path begin) (omega arith) chain)

-- the entry of a line that was met
pub met_place : (lines : List And) (path : List ℕ) (met : List (Option ℕ)) (place begin : ℕ) (one : And) → AreMet lines path met → slice_get met place ≡ Some (Some begin) → slice_get lines place ≡ Some one
    → (begin < length path) × (slice_index path begin ≡ one.lhs)
met_place lines path met place begin one old entry is =
    let at = old place begin one entry is in
    (slice_get_within path begin one.lhs at, get_or_from_slice_get path begin one.lhs 0 at)
