-- What is reached, as it is kept.
use Rattle.std.proofs.Common.{◌≡◌, ℕ, Bool, List, Option, Some, None, get_or, sym, ap, subst, Vec, Global}
use Rattle.std.specs.Option.{option_map}
use Rattle.std.proofs.lemmas.List.Elements.{Contains-get_or}
use Rattle.bind_hierarchy.specs.Modules as hierarchy
use Rattle.bind_hierarchy.specs.Reach.{IsReach}
use Rattle.bind_forms.specs.Modules.{Setting, IsTop, IsReached}
use Rattle.bind_faults.specs.declared.find.Reached.{Reached}
use Rattle.bind_faults.specs.Checks.{AreReached}
use Rattle.bind_faults.specs.Reached.{IsReachedBy}
use Rattle.bind_faults.proofs.OneTop.{one_top}

module _ (setting : Setting) (top : ℕ) (is : IsTop setting top) where
  by_top : (at : ℕ) → IsReached setting at → hierarchy.IsReached setting.modules top at
  by_top at r = subst (λ (n : ℕ). hierarchy.IsReached setting.modules n at) (one_top setting r.top top r.top_is is) r.reaches

  of_top : (at : ℕ) → hierarchy.IsReached setting.modules top at → IsReached setting at
  of_top at r = record { top = top; top_is = is; reaches = r }

  pub are_reached : (flags : List Bool) (order : List ℕ) (ring : Option (List ℕ)) → IsReach setting.modules top flags order ring → AreReached setting flags
  are_reached flags order ring reach = record {
    count = reach.flags;
    each = λ at. (λ e. of_top at ((reach.reached_is at).0 e), λ r. (reach.reached_is at).1 (by_top at r));
  }

  none_on_ring : (flags : List Bool) (order : List ℕ) (ring : Option (List ℕ)) → IsReach setting.modules top flags order ring → ring ≡ None → (at : ℕ) → hierarchy.IsReached setting.modules top at → hierarchy.IsOnRing setting.modules at → ⊥
  none_on_ring flags order None reach e = reach.ring_is
  none_on_ring flags order (Some ring) reach e = absurd (let no_ring : Some ring ≡ None = e in cc)

  pub reached_by : (found : Reached) (ring : Option (Vec ℕ Global)) → found.top ≡ top → IsReach setting.modules top found.reached.items found.order.items (option_map (λ (ring : Vec ℕ Global). ring.items) ring) → ring ≡ None → IsReachedBy setting found
  reached_by found ring same reach e = let items : Option (List ℕ) = option_map (λ (ring : Vec ℕ Global). ring.items) ring in record {
    top_is = subst (λ (n : ℕ). IsTop setting n) (sym same) is;
    flags = are_reached found.reached.items found.order.items items reach;
    order_is = λ at. (λ c. of_top at ((reach.order_is at).0 c), λ r. (reach.order_is at).1 (by_top at r));
    once = reach.once;
    after = λ place inner l i. reach.after place inner l
        (none_on_ring found.reached.items found.order.items items reach (ap (λ (o : Option (Vec ℕ Global)). option_map (λ (ring : Vec ℕ Global). ring.items) o) e) (get_or found.order.items place 0)
        ((reach.order_is (get_or found.order.items place 0)).0 (Contains-get_or found.order.items place 0 l))) i;
  }
