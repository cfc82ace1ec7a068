-- The least and the greatest difference of two lanes.
use Rattle.std.proofs.Common.{◌≡◌, ◌≢◌, ℕ, zero, suc, ◌+◌, Bool, true, ℤ, pos, ◌+ℤ◌, ◌-ℤ◌, ◌≤ℤ◌, List, [], ◌∷◌, ◌++◌, length, take, refl, sym, ap, ◌∙◌, arith, length-append}
use Rattle.std.proofs.lemmas.Int.{ints}
use Rattle.std.specs.List.{AllZip}
use Rattle.rsfq_ids.specs.declared.offence.PathArc.{PathArc}
use Rattle.rsfq_ids.specs.Design.{Design}
use Rattle.rsfq_ids.specs.Time.{IsWithin, total}
use Rattle.rsfq_ids.specs.Path.{IsDelay, SameDelays}
use Rattle.pulse_laws.specs.Spread.{IsSpread}
use Rattle.lane_forest.specs.Forest.{AreAlikeUpTo}
use Rattle.lane_forest.specs.Lanes.{IsLeastDelay, IsGreatestDelay, HasSums}
use Rattle.lane_forest.proofs.Lists.{zip_append}

pub total-append : (ds es : List ℤ) → total (ds ++ es) ≡ (total ds +ℤ total es)
total-append [] es = omega (arith, ints)
total-append (d ∷ ds) es = let more = total-append ds es in omega (arith, ints)

-- the parts of a list beside the parts of another
pub record Split {A B : Type 0} (R : A → B → Type 0) (xs us : List A) (ys : List B) : Type 0 where
  pub front : List B
  pub back : List B
  pub parts : ys ≡ front ++ back
  pub first : AllZip R xs front
  pub second : AllZip R us back

pub zip_split : {A B : Type 0} (R : A → B → Type 0) (xs us : List A) (ys : List B) → AllZip R (xs ++ us) ys → Split R xs us ys
zip_split R [] us ys zip = record { front = []; back = ys; parts = refl; first = tt; second = zip }
zip_split R (x ∷ xs) us [] zip = absurd zip
zip_split R (x ∷ xs) us (y ∷ ys) zip = let s = zip_split R xs us ys zip.1 in record { front = y ∷ s.front; back = s.back; parts = ap (λ zs. y ∷ zs) s.parts; first = (zip.0, s.first); second = s.second }

-- where two lists go on differently, or one of them ends
abbrev pub GoApart : List PathArc → List PathArc → Type 0
GoApart [] others = Unit {0}
GoApart (a ∷ arcs) [] = Unit {0}
GoApart (a ∷ arcs) (b ∷ others) = a ≢ b

one_more : (front : List PathArc) (count : ℕ) (a b : PathArc) (arcs others : List PathArc) → count ≡ length front + 1 → a ≡ b → take count (front ++ a ∷ arcs) ≡ take count (front ++ b ∷ others)
one_more [] zero a b arcs others is same = absurd (omega arith)
one_more [] (suc count) a b arcs others is same =
    let z : count ≡ 0 = omega arith in
    ap (λ (x : PathArc). x ∷ take count arcs) same ∙ ap (λ (n : ℕ). b ∷ take n arcs) z ∙ ap (λ (n : ℕ). b ∷ take n others) (sym z)
one_more (f ∷ front) zero a b arcs others is same = absurd (omega arith)
one_more (f ∷ front) (suc count) a b arcs others is same = ap (λ (xs : List PathArc). f ∷ xs) (one_more front count a b arcs others (omega arith) same)

pub go_apart : (front arcs others : List PathArc) → AreAlikeUpTo (front ++ arcs) (front ++ others) (length front) → GoApart arcs others
go_apart front [] others most = tt
go_apart front (a ∷ arcs) [] most = tt
go_apart front (a ∷ arcs) (b ∷ others) most = λ same.
    (let l = length-append front (a ∷ arcs) in
    let m = length-append front (b ∷ others) in
    let alike : take (length front + 1) (front ++ a ∷ arcs) ≡ take (length front + 1) (front ++ b ∷ others) = one_more front (length front + 1) a b arcs others refl same in
    let few = most (length front + 1) (omega arith) (omega arith) alike in absurd (omega arith))

module _ (design : Design) where
  least : (arcs : List PathArc) (lows delays : List ℤ) → AllZip (IsLeastDelay design) arcs lows → AllZip (IsDelay design) arcs delays → total lows ≤ℤ total delays
  least [] [] [] is may = omega (arith, ints)
  least [] [] (d ∷ delays) is may = absurd may
  least [] (l ∷ lows) delays is may = absurd is
  least (a ∷ arcs) [] delays is may = absurd is
  least (a ∷ arcs) (l ∷ lows) [] is may = absurd may
  least (a ∷ arcs) (l ∷ lows) (d ∷ delays) is may = let here = is.0.least d may.0 in let rest = least arcs lows delays is.1 may.1 in omega (arith, ints)

  greatest : (arcs : List PathArc) (highs delays : List ℤ) → AllZip (IsGreatestDelay design) arcs highs → AllZip (IsDelay design) arcs delays → total delays ≤ℤ total highs
  greatest [] [] [] is may = omega (arith, ints)
  greatest [] [] (d ∷ delays) is may = absurd may
  greatest [] (h ∷ highs) delays is may = absurd is
  greatest (a ∷ arcs) [] delays is may = absurd is
  greatest (a ∷ arcs) (h ∷ highs) [] is may = absurd may
  greatest (a ∷ arcs) (h ∷ highs) (d ∷ delays) is may = let here = is.0.greatest d may.0 in let rest = greatest arcs highs delays is.1 may.1 in omega (arith, ints)

  -- the least delays may be taken, and the greatest
  pub may_least : (arcs : List PathArc) (lows : List ℤ) → AllZip (IsLeastDelay design) arcs lows → AllZip (IsDelay design) arcs lows
  may_least [] [] is = tt
  may_least [] (l ∷ lows) is = absurd is
  may_least (a ∷ arcs) [] is = absurd is
  may_least (a ∷ arcs) (l ∷ lows) is = (is.0.may, may_least arcs lows is.1)

  pub may_greatest : (arcs : List PathArc) (highs : List ℤ) → AllZip (IsGreatestDelay design) arcs highs → AllZip (IsDelay design) arcs highs
  may_greatest [] [] is = tt
  may_greatest [] (l ∷ highs) is = absurd is
  may_greatest (a ∷ arcs) [] is = absurd is
  may_greatest (a ∷ arcs) (l ∷ highs) is = (is.0.may, may_greatest arcs highs is.1)

  -- sums of some delays lie between those of the least and the greatest
  pub sums_within : (arcs : List PathArc) (low high : ℤ) (delays : List ℤ) → HasSums design arcs low high → AllZip (IsDelay design) arcs delays → IsWithin low high (total delays)
  sums_within arcs low high delays sums may =
      let l = least arcs sums.lows delays sums.least may in
      let h = greatest arcs sums.highs delays sums.greatest may in
      let a = sums.low_is in
      let b = sums.high_is in record { from = omega (arith, ints); to = omega (arith, ints) }

  -- the sums of the back of a list, from those of the whole and of the front
  pub sums_back : (front back : List PathArc) (low high l h : ℤ) → HasSums design (front ++ back) low high → HasSums design front l h → HasSums design back (low -ℤ l) (high -ℤ h)
  sums_back front back low high l h whole part =
      let s = zip_split (IsLeastDelay design) front back whole.lows whole.least in
      let t = zip_split (IsGreatestDelay design) front back whole.highs whole.greatest in
      let a = least front s.front part.lows s.first (may_least front part.lows part.least) in
      let b = least front part.lows s.front part.least (may_least front s.front s.first) in
      let c = greatest front t.front part.highs t.first (may_greatest front part.highs part.greatest) in
      let d = greatest front part.highs t.front part.greatest (may_greatest front t.front t.first) in
      let x = total-append s.front s.back in
      let y = total-append t.front t.back in
      let u : total whole.lows ≡ total (s.front ++ s.back) = ap (λ (ds : List ℤ). total ds) s.parts in
      let v : total whole.highs ≡ total (t.front ++ t.back) = ap (λ (ds : List ℤ). total ds) t.parts in
      let wl = whole.low_is in
      let wh = whole.high_is in
      let pl = part.low_is in
      let ph = part.high_is in
      record { lows = s.back; highs = t.back; least = s.second; greatest = t.second; low_is = omega (arith, ints); high_is = omega (arith, ints) }

  -- delays that are the same on a shared front
  pub record Shared (arcs others : List PathArc) (delays ends : List ℤ) : Type 0 where
    pub sum : ℤ
    pub rest : List ℤ
    pub beside : List ℤ
    pub first : total delays ≡ (sum +ℤ total rest)
    pub second : total ends ≡ (sum +ℤ total beside)
    pub may : AllZip (IsDelay design) arcs rest
    pub may_too : AllZip (IsDelay design) others beside

  pub shared_front : (front arcs others : List PathArc) (delays ends : List ℤ) → AllZip (IsDelay design) (front ++ arcs) delays → AllZip (IsDelay design) (front ++ others) ends → SameDelays (front ++ arcs) delays (front ++ others) ends → Shared arcs others delays ends
  shared_front [] arcs others delays ends may may' same = record { sum = pos 0; rest = delays; beside = ends; first = omega (arith, ints); second = omega (arith, ints); may = may; may_too = may' }
  shared_front (a ∷ front) arcs others [] ends may may' same = absurd may
  shared_front (a ∷ front) arcs others (d ∷ delays) [] may may' same = absurd may'
  shared_front (a ∷ front) arcs others (d ∷ delays) (e ∷ ends) may may' same =
      let one = same refl in
      let more = shared_front front arcs others delays ends may.1 may'.1 one.1 in
      let x = one.0 in
      let y = more.first in
      let z = more.second in
      record { sum = d +ℤ more.sum; rest = more.rest; beside = more.beside; first = omega (arith, ints); second = omega (arith, ints); may = more.may; may_too = more.may_too }

  same_front : (front arcs others : List PathArc) (delays rest beside : List ℤ) → AllZip (IsDelay design) front delays → AllZip (IsDelay design) arcs rest → AllZip (IsDelay design) others beside → GoApart arcs others → SameDelays (front ++ arcs) (delays ++ rest) (front ++ others) (delays ++ beside)
  same_front [] [] others [] rest beside may first second apart = tt
  same_front [] (a ∷ arcs) [] [] [] beside may first second apart = absurd first
  same_front [] (a ∷ arcs) [] [] (r ∷ rest) beside may first second apart = tt
  same_front [] (a ∷ arcs) (b ∷ others) [] [] beside may first second apart = absurd first
  same_front [] (a ∷ arcs) (b ∷ others) [] (r ∷ rest) [] may first second apart = absurd second
  same_front [] (a ∷ arcs) (b ∷ others) [] (r ∷ rest) (s ∷ beside) may first second apart = λ same. absurd (apart same)
  same_front [] arcs others (d ∷ delays) rest beside may first second apart = absurd may
  same_front (f ∷ front) arcs others [] rest beside may first second apart = absurd may
  same_front (f ∷ front) arcs others (d ∷ delays) rest beside may first second apart = λ same. (refl, same_front front arcs others delays rest beside may.1 first second apart)

  -- the spread of two lists of arcs that share a front
  pub spread_shared : (front arcs others : List PathArc) (low high low' high' l h : ℤ) → HasSums design (front ++ arcs) low high → HasSums design (front ++ others) low' high' → HasSums design front l h → GoApart arcs others →
      IsSpread design true (front ++ arcs) (front ++ others) ((low -ℤ l) -ℤ (high' -ℤ h)) ((high -ℤ h) -ℤ (low' -ℤ l))
  spread_shared front arcs others low high low' high' l h first second part apart =
      let one = sums_back front arcs low high l h first part in
      let two = sums_back front others low' high' l h second part in
      let lead = may_least front part.lows part.least in
      let one_low = may_least arcs one.lows one.least in
      let one_high = may_greatest arcs one.highs one.greatest in
      let two_low = may_least others two.lows two.least in
      let two_high = may_greatest others two.highs two.greatest in
      let a = one.low_is in
      let b = one.high_is in
      let c = two.low_is in
      let d = two.high_is in
      let ta = total-append part.lows one.lows in
      let tb = total-append part.lows one.highs in
      let tc = total-append part.lows two.lows in
      let td = total-append part.lows two.highs in
      record {
        within = λ delays ends both.
            (let s = shared_front front arcs others delays ends both.first both.second (both.agree refl) in
            let x = sums_within arcs (low -ℤ l) (high -ℤ h) s.rest one s.may in
            let y = sums_within others (low' -ℤ l) (high' -ℤ h) s.beside two s.may_too in
            let f = x.from in
            let t = x.to in
            let g = y.from in
            let u = y.to in
            let m = s.first in
            let n = s.second in record { from = omega (arith, ints); to = omega (arith, ints) });
        least = (
          part.lows ++ one.lows,
          part.lows ++ two.highs,
          record {
            first = zip_append (IsDelay design) front part.lows arcs one.lows lead one_low;
            second = zip_append (IsDelay design) front part.lows others two.highs lead two_high;
            agree = λ same. same_front front arcs others part.lows one.lows two.highs lead one_low two_high apart;
          },
          omega (arith, ints),
        );
        most = (
          part.lows ++ one.highs,
          part.lows ++ two.lows,
          record {
            first = zip_append (IsDelay design) front part.lows arcs one.highs lead one_high;
            second = zip_append (IsDelay design) front part.lows others two.lows lead two_low;
            agree = λ same. same_front front arcs others part.lows one.highs two.lows lead one_high two_low apart;
          },
          omega (arith, ints),
        );
      }

  -- the spread of two lists of arcs whose delays have nothing to do with each other
  pub spread_free : (same : Bool) (arcs others : List PathArc) (low high low' high' : ℤ) → (same ≡ true → ⊥) → HasSums design arcs low high → HasSums design others low' high' → IsSpread design same arcs others (low -ℤ high') (high -ℤ low')
  spread_free same arcs others low high low' high' free first second =
      let a = first.low_is in
      let b = first.high_is in
      let c = second.low_is in
      let d = second.high_is in
      record {
        within = λ delays ends both.
            (let x = sums_within arcs low high delays first both.first in
            let y = sums_within others low' high' ends second both.second in
            let f = x.from in
            let t = x.to in
            let g = y.from in
            let u = y.to in record { from = omega (arith, ints); to = omega (arith, ints) });
        least = (first.lows, second.highs, record { first = may_least arcs first.lows first.least; second = may_greatest others second.highs second.greatest; agree = λ e. absurd (free e) }, omega (arith, ints));
        most = (first.highs, second.lows, record { first = may_greatest arcs first.highs first.greatest; second = may_least others second.lows second.least; agree = λ e. absurd (free e) }, omega (arith, ints));
      }
