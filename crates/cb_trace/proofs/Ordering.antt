-- Orders of entries: how many have gone, and that taking an entry early never hurts.
use Rattle.std.proofs.Common.{◌≡◌, ℕ, ◌+◌, ◌<◌, ◌≤◌, Bool, true, false, eqb, List, [], ◌∷◌, ◌++◌, length, Some, refl, ap, subst, ◌∙◌, arith, if◌then◌else◌}
use Rattle.std.specs.Prelude.{slice_get}
use Rattle.std.proofs.lemmas.Option.{slice_get_within}
use Rattle.std.proofs.lemmas.Bool.{eq-eqb, eqb-true}
use Rattle.cb_history.specs.Facts.{EntryFields, CastEntry, ArriveEntry, TickEntry}
use Rattle.cb_trace.specs.JointOrder.{Histories, gone, AreSentOut, MayGo, IsOrder, NothingGone, OneMoreGoes, NothingTaken, SmallestTaken, IsStuck}
use Rattle.cb_trace.specs.AuditLaws.{GreedyOrdersAreOrders, JointOrderIsFound}

-- one more of member i
pub gone_more : (order : List ℕ) (i k : ℕ) → gone (order ++ i ∷ []) k ≡ gone order k + (if eqb i k then 1 else 0)
gone_more [] i k = omega arith
gone_more (j ∷ order) i k = omega (arith, gone_more order i k)

pub gone_own : (order : List ℕ) (k : ℕ) → gone (order ++ k ∷ []) k ≡ gone order k + 1
gone_own order k = gone_more order k k ∙ ap (λ (b : Bool). gone order k + (if b then 1 else 0)) (eq-eqb k k refl)

pub gone_at_least : (order : List ℕ) (i k : ℕ) → gone order k ≤ gone (order ++ i ∷ []) k
gone_at_least order i k = omega (arith, gone_more order i k)

-- an order goes on from the place of each of its entries
pub one_is : (a b : EntryFields) → Some a ≡ Some b → a ≡ b
one_is a b e = cc

-- what is sent stays so, where as many of each member have gone
pub sent_out_stays : (histories : Histories) (order more : List ℕ) (bytes : List ℕ) → ((k : ℕ) → gone order k ≤ gone more k) → AreSentOut histories order bytes → AreSentOut histories more bytes
sent_out_stays histories order more bytes most out = record {
  member = out.member;
  place = out.place;
  entry = out.entry;
  went = omega (arith, out.went, most out.member);
  stands = out.stands;
  out = out.out;
}

pub may_go_stays : (histories : Histories) (order more : List ℕ) (e : EntryFields) → ((k : ℕ) → gone order k ≤ gone more k) → MayGo histories order e → MayGo histories more e
may_go_stays histories order more (CastEntry frame) most may = tt
may_go_stays histories order more (ArriveEntry frame delivered) most may = sent_out_stays histories order more frame most may
may_go_stays histories order more (TickEntry status) most may = tt

-- at most as many have gone as there are
pub within : (histories : Histories) (order : List ℕ) → IsOrder histories order → (k : ℕ) → gone order k ≤ length (histories k)
within histories _ NothingGone k = omega arith
within histories _ (OneMoreGoes order i is goes) k = by (within histories order is k) (eqb i k) refl
  where
    by : gone order k ≤ length (histories k) → (b : Bool) → eqb i k ≡ b → gone (order ++ i ∷ []) k ≤ length (histories k)
    by least true e =
        let same : i ≡ k = eqb-true i k e in
        let more = gone_own order i in
        let inside : gone order i < length (histories i) = slice_get_within (histories i) (gone order i) goes.entry goes.next in
        subst (λ (j : ℕ). gone (order ++ i ∷ []) j ≤ length (histories j)) same (omega (arith, more, inside))
    by least false e =
        let more = gone_more order i k ∙ ap (λ (b : Bool). gone order k + (if b then 1 else 0)) e in
        omega (arith, more, least)

-- whatever goes in some order has gone in one that is stuck
stuck_is_ahead : (histories : Histories) (done : List ℕ) → IsStuck histories done → (order : List ℕ) → IsOrder histories order → (k : ℕ) → gone order k ≤ gone done k
stuck_is_ahead histories done stuck _ NothingGone k = omega arith
stuck_is_ahead histories done stuck _ (OneMoreGoes order i is goes) k = by (stuck_is_ahead histories done stuck order is) (eqb i k) refl
  where
    -- it can't be that just those before it have gone
    left : ((j : ℕ) → gone order j ≤ gone done j) → gone order i ≡ gone done i → ⊥
    left ahead e = stuck i (record {
      entry = goes.entry;
      next = subst (λ (n : ℕ). slice_get (histories i) n ≡ Some goes.entry) e goes.next;
      may = may_go_stays histories order done goes.entry ahead goes.may;
    })

    by : ((j : ℕ) → gone order j ≤ gone done j) → (b : Bool) → eqb i k ≡ b → gone (order ++ i ∷ []) k ≤ gone done k
    by ahead true e =
        let same : i ≡ k = eqb-true i k e in
        let more = gone_own order i in
        subst (λ (j : ℕ). gone (order ++ i ∷ []) j ≤ gone done j) same (omega (arith, more, ahead i, left ahead))
    by ahead false e =
        let more = gone_more order i k ∙ ap (λ (b : Bool). gone order k + (if b then 1 else 0)) e in
        omega (arith, more, ahead k)

pub joint_order_is_found : JointOrderIsFound
joint_order_is_found histories order joint is stuck whole = record {
  order_is = is;
  all = λ k.
      let ahead = stuck_is_ahead histories order stuck joint whole.order_is k in
      let most = within histories order is k in
      omega (arith, ahead, most, whole.all k);
}

pub greedy_orders_are_orders : GreedyOrdersAreOrders
greedy_orders_are_orders histories _ NothingTaken = NothingGone
greedy_orders_are_orders histories _ (SmallestTaken order k is first) = OneMoreGoes order k (greedy_orders_are_orders histories order is) first.goes
