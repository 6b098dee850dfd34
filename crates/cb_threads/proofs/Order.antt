-- Members of a group, one after another.
use Rattle.std.proofs.Common.{◌≡◌, ℕ, suc, ◌+◌, List, [], ◌∷◌, ◌++◌, length, length-append, map, drop, get_or, subst, sym, ap, ◌∙◌, arith}
use Rattle.std.proofs.lemmas.List.{append_assoc, drop-drop, length-map, map-append}
use Rattle.std.proofs.lemmas.List.Elements.{All-append, All-cons, All-nil}
use Rattle.cb_history.specs.Group.{Parameters}
use Rattle.cb_history.specs.declared.history.History.{History}
use Rattle.cb_threads.specs.declared.report.Tally.{Tally}
use Rattle.cb_threads.specs.declared.life.Kept.{Kept}
use Rattle.cb_threads.specs.declared.life.OfMember.{OfMember}
use Rattle.cb_threads.specs.declared.report.MemberReport.{MemberReport}
use Rattle.cb_threads.specs.Groups.{IsKept, IsLife, AreKept, AreMembers, tally_in}
use Rattle.cb_threads.specs.declared.report.Failures.{Failures}
use Rattle.cb_threads.specs.declared.per_worker.PerWorker.{PerWorker}
use Rattle.cb_threads.specs.Reports.{EachHandsBack, EachTellsFailures, HandsBack, TellFailures, TellsFailures, failures_in}

pub members_more : (group : Parameters) (me : ℕ) (ps : List OfMember) (p : OfMember) → AreMembers group me ps → p.group ≡ group → p.me ≡ me + length ps → AreMembers group me (ps ++ p ∷ [])
members_more group me [] p all g m = (g, omega (arith, m), tt)
members_more group me (q ∷ ps) p all g m = (all.0, all.1, members_more group (suc me) ps p all.2 g (omega (arith, m)))

pub kept_more : (group : Parameters) (me at : ℕ) (hs : List History) (ts : List Tally) (h : History) (t : Tally) → AreKept group me hs ts → at ≡ me + length hs → IsKept group at h t → AreKept group me (hs ++ h ∷ []) (ts ++ t ∷ [])
kept_more group me at [] [] h t all is k = (subst (λ (n : ℕ). IsKept group n h t) (omega (arith, is)) k, tt)
kept_more group me at [] (u ∷ ts) h t all is k = absurd all
kept_more group me at (g ∷ hs) [] h t all is k = absurd all
kept_more group me at (g ∷ hs) (u ∷ ts) h t all is k = (all.0, kept_more group (suc me) at hs ts h t all.1 (omega (arith, is)) k)

-- one more of them has ended
pub joins : (group : Parameters) (hs : List History) (ts : List Tally) (p : OfMember) (ps : List OfMember) (h : History) (t : Tally) → AreKept group 0 hs ts × AreMembers group (length hs) (p ∷ ps) → IsKept p.group p.me h t
    → AreKept group 0 (hs ++ h ∷ []) (ts ++ t ∷ []) × AreMembers group (length (hs ++ h ∷ [])) ps
joins group hs ts p ps h t (kept, (g, m, others)) k =
    let here : IsKept group p.me h t = subst (λ (q : Parameters). IsKept q p.me h t) g k in (
      kept_more group 0 p.me hs ts h t kept (omega (arith, m)) here,
      subst (λ (n : ℕ). AreMembers group n ps) (omega (arith, length-append hs (h ∷ []))) others,
    )

-- so with the threads that are still to be joined
pub goes : {H R : Type 0} (promise : H → OfMember) (tally : R → Tally) (n : ℕ) (all : List OfMember) (hs hs' : List History) (rs rs' : List R) (rest rest' : List H) (h : H) (r : R) (history : History)
    → (length hs + length rest ≡ n) × ((group : Parameters) → AreMembers group 0 all → AreKept group 0 hs (map tally rs) × AreMembers group (length hs) (map promise rest)) → rest ≡ h ∷ rest'
    → IsKept (promise h).group (promise h).me history (tally r) → hs' ≡ hs ++ history ∷ [] → rs' ≡ rs ++ r ∷ []
    → (length hs' + length rest' ≡ n) × ((group : Parameters) → AreMembers group 0 all → AreKept group 0 hs' (map tally rs') × AreMembers group (length hs') (map promise rest'))
goes {H} {R} promise tally n all hs hs' rs rs' rest rest' h r history inv e kept eh er =
    let count : length hs' + length rest' ≡ n = omega (arith, ap length eh, length-append hs (history ∷ []), ap length e, inv.0) in
    let tallies : map tally rs' ≡ map tally rs ++ tally r ∷ [] = ap (map tally) er ∙ map-append tally rs (r ∷ []) in (
      count,
      λ group members.
          let k = inv.1 group members in
          let others : AreMembers group (length hs) (promise h ∷ map promise rest') = subst (λ (xs : List H). AreMembers group (length hs) (map promise xs)) e k.1 in
          let j = joins group hs (map tally rs) (promise h) (map promise rest') history (tally r) (k.0, others) kept in (
            subst (λ (ts : List Tally). AreKept group 0 hs' ts) (sym tallies) (subst (λ (xs : List History). AreKept group 0 xs (map tally rs ++ tally r ∷ [])) (sym eh) j.0),
            subst (λ (xs : List History). AreMembers group (length xs) (map promise rest')) (sym eh) j.1,
          ),
    )

-- one more thread was started
pub starts : {H P : Type 0} (promise : H → OfMember) (group : Parameters) (me size : ℕ) (hs hs' : List H) (rest rest' : List P) (h : H) (p : P) → (me ≡ length hs) × (me + length rest ≡ size) × AreMembers group 0 (map promise hs) → rest ≡ p ∷ rest' → hs' ≡ hs ++ h ∷ []
    → (promise h).group ≡ group → (promise h).me ≡ me → (me + 1 ≡ length hs') × (me + 1 + length rest' ≡ size) × AreMembers group 0 (map promise hs')
starts {H} promise group me size hs hs' rest rest' h p (many, all, members) e eh g m =
    let more : AreMembers group 0 (map promise hs ++ promise h ∷ []) = members_more group 0 (map promise hs) (promise h) members g (omega (arith, m, many, length-map hs promise)) in (
      omega (arith, many, ap length eh, length-append hs (h ∷ [])),
      omega (arith, all, ap length e),
      subst (AreMembers group 0) (sym (ap (map promise) eh ∙ map-append promise hs (h ∷ []))) more,
    )

-- one more report, which hands back what it should
pub one_more_back : {I O P T : Type 0} (rs rs' : List (MemberReport I O P T)) (r : MemberReport I O P T) → EachHandsBack rs → HandsBack r → rs' ≡ rs ++ r ∷ [] → EachHandsBack rs'
one_more_back {I} {O} {P} {T} rs rs' r each one is =
    let Q : MemberReport I O P T → Type 0 = λ report. HandsBack report in
    subst (λ (all : List (MemberReport I O P T)). EachHandsBack all) (sym is) (All-append Q rs (r ∷ []) each (All-cons Q r [] one (All-nil Q)))

-- one more member has ended
pub ends_next : {I O P T H : Type 0} (inlet : I → ℕ) (outlet : O → ℕ) (pace : P → ℕ) (promise : H → OfMember) (n : ℕ) (all : List OfMember) (hs hs' : List History) (rs rs' : List (MemberReport I O P T)) (rest rest' : List H) (h : H) (kept : Kept I O P T)
    → (length hs + length rest ≡ n) × ((group : Parameters) → AreMembers group 0 all → AreKept group 0 hs (map tally_in rs) × AreMembers group (length hs) (map promise rest)) → EachHandsBack rs → rest ≡ h ∷ rest'
    → IsLife inlet outlet pace (promise h).group (promise h).me (promise h).before kept → (rs' ≡ rs ++ kept.report ∷ []) × (hs' ≡ hs ++ kept.history ∷ [])
    → ((length hs' + length rest' ≡ n) × ((group : Parameters) → AreMembers group 0 all → AreKept group 0 hs' (map tally_in rs') × AreMembers group (length hs') (map promise rest'))) × EachHandsBack rs'
ends_next inlet outlet pace promise n all hs hs' rs rs' rest rest' h kept inv back is_h is added =
    (goes promise tally_in n all hs hs' rs rs' rest rest' h kept.report kept.history inv is_h is.history added.1 added.0, one_more_back rs rs' kept.report back is.parts added.0)

-- ---- failures

-- one more report, which tells of the failures of its member
tells_more : {I O P T : Type 0} (inlet : I → ℕ) (outlet : O → ℕ) (pace : P → ℕ) (bs : List Failures) (b : Failures) (rest : List Failures) (rs : List (MemberReport I O P T)) (r : MemberReport I O P T)
    → TellFailures inlet outlet pace bs rs → drop (length rs) bs ≡ b ∷ rest → TellsFailures inlet outlet pace b r → TellFailures inlet outlet pace bs (rs ++ r ∷ [])
tells_more inlet outlet pace [] b rest [] r all at one = absurd (omega (arith, ap length at))
tells_more inlet outlet pace (c ∷ bs) b rest [] r all at one =
    let same : c ≡ b = ap (λ (xs : List Failures). get_or xs 0 b) at in
    (subst (λ (f : Failures). TellsFailures inlet outlet pace f r) (sym same) one, tt)
tells_more inlet outlet pace [] b rest (s ∷ rs) r all at one = absurd all
tells_more inlet outlet pace (c ∷ bs) b rest (s ∷ rs) r all at one = (all.0, tells_more inlet outlet pace bs b rest rs r all.1 at one)

-- of the members whose threads are still to be joined one fewer is left
drop_next : {X Y : Type 0} (xs : List X) (x : X) (rest : List X) (ys : List Y) (y : Y) → drop (length ys) xs ≡ x ∷ rest → drop (length (ys ++ y ∷ [])) xs ≡ rest
drop_next {X} xs x rest ys y at =
    let long : length (ys ++ y ∷ []) ≡ length ys + 1 = length-append ys (y ∷ []) in
    ap (λ (n : ℕ). drop n xs) long ∙ sym (drop-drop 1 (length ys) xs) ∙ ap (λ (l : List X). drop 1 l) at

-- so where one more member has ended
pub tells_next : {I O P T H : Type 0} (inlet : I → ℕ) (outlet : O → ℕ) (pace : P → ℕ) (promise : H → OfMember) (bs : List Failures) (hs hs' : List History) (rs rs' : List (MemberReport I O P T)) (rest rest' : List H) (h : H) (kept : Kept I O P T)
    → (drop (length rs) bs ≡ map (λ x. (promise x).before) rest) × TellFailures inlet outlet pace bs rs → rest ≡ h ∷ rest'
    → IsLife inlet outlet pace (promise h).group (promise h).me (promise h).before kept → (rs' ≡ rs ++ kept.report ∷ []) × (hs' ≡ hs ++ kept.history ∷ [])
    → (drop (length rs') bs ≡ map (λ x. (promise x).before) rest') × TellFailures inlet outlet pace bs rs'
tells_next {I} {O} {P} {T} {H} inlet outlet pace promise bs hs hs' rs rs' rest rest' h kept inv is_h is added =
    let at : drop (length rs) bs ≡ (promise h).before ∷ map (λ (x : H). (promise x).before) rest' = inv.0 ∙ ap (map (λ (x : H). (promise x).before)) is_h in (
      subst (λ (xs : List (MemberReport I O P T)). drop (length xs) bs ≡ map (λ (x : H). (promise x).before) rest') (sym added.0) (drop_next bs (promise h).before (map (λ (x : H). (promise x).before) rest') rs kept.report at),
      subst (λ (xs : List (MemberReport I O P T)). TellFailures inlet outlet pace bs xs) (sym added.0) (tells_more inlet outlet pace bs (promise h).before (map (λ (x : H). (promise x).before) rest') rs kept.report inv.1 at is.failures),
    )

-- one more of them was done
pub does_next : {X Y Z : Type 0} (f : X → Z) (g : Y → Z) (done done' : List X) (rest rest' : List Y) (all : List Z) (x : X) (y : Y) → map f done ++ map g rest ≡ all → rest ≡ y ∷ rest' → done' ≡ done ++ x ∷ [] → f x ≡ g y → map f done' ++ map g rest' ≡ all
does_next {X} {Y} {Z} f g done done' rest rest' all x y inv e ed is =
    ap (λ (zs : List Z). zs ++ map g rest') (ap (map f) ed ∙ map-append f done (x ∷ []))
    ∙ append_assoc (map f done) (f x ∷ []) (map g rest')
    ∙ ap (λ (z : Z). map f done ++ z ∷ map g rest') is
    ∙ ap (λ (ys : List Y). map f done ++ map g ys) (sym e)
    ∙ inv

-- there are as many parts as links
pub as_many : {I O P T : Type 0} (ps : List (PerWorker I P T O)) (links : List (I × O)) → map (λ p. (p.receiver, p.sender)) ps ≡ links → length ps ≡ length links
as_many {I} {O} {P} {T} ps links is =
    let link_of : PerWorker I P T O → I × O = λ p. (p.receiver, p.sender) in
    sym (length-map ps link_of) ∙ ap length is

-- what is told of the failures of parts is told of their links and paces
each_tells : {I O P T : Type 0} (inlet : I → ℕ) (outlet : O → ℕ) (pace : P → ℕ) (ps : List (PerWorker I P T O)) (rs : List (MemberReport I O P T)) → TellFailures inlet outlet pace (map (failures_in inlet outlet pace) ps) rs
    → EachTellsFailures inlet outlet pace (map (λ p. (p.receiver, p.sender)) ps) (map (λ p. p.timer) ps) rs
each_tells inlet outlet pace [] [] all = tt
each_tells inlet outlet pace [] (r ∷ rs) all = absurd all
each_tells inlet outlet pace (p ∷ ps) [] all = tt
each_tells inlet outlet pace (p ∷ ps) (r ∷ rs) all = (all.0, each_tells inlet outlet pace ps rs all.1)

-- so where the parts were made of these links and paces
pub tells_all : {I O P T : Type 0} (inlet : I → ℕ) (outlet : O → ℕ) (pace : P → ℕ) (ps : List (PerWorker I P T O)) (links : List (I × O)) (paces : List P) (rs : List (MemberReport I O P T))
    → TellFailures inlet outlet pace (map (failures_in inlet outlet pace) ps) rs → map (λ p. (p.receiver, p.sender)) ps ≡ links → map (λ p. p.timer) ps ≡ paces → EachTellsFailures inlet outlet pace links paces rs
tells_all {I} {O} {P} {T} inlet outlet pace ps links paces rs all are_links are_paces =
    subst (λ (ls : List (I × O)). EachTellsFailures inlet outlet pace ls paces rs) are_links
    (subst (λ (qs : List P). EachTellsFailures inlet outlet pace (map (λ (p : PerWorker I P T O). (p.receiver, p.sender)) ps) qs rs) are_paces (each_tells inlet outlet pace ps rs all))
