-- Histories of before there were help frames are legal, and an audit says nothing against them.
use Rattle.std.proofs.Common.{◌≡◌, ℕ, ◌<◌, List, [], ◌∷◌, ◌++◌, refl, sym, subst, ◌∙◌, arith, append_assoc}
use Rattle.cb_history.specs.Group.{Parameters, Identity}
use Rattle.cb_history.specs.Facts.{EntryFields}
use Rattle.cb_history.specs.Legal.{IsLegal}
use Rattle.cb_history.proofs.Prefixes.{prefix_is_legal}
use Rattle.cb_history.proofs.Replays.{one_more_is_decided}
use Rattle.cb_history.proofs.Before.{legal_before_is_legal}
use Rattle.cb_trace.specs.declared.fault.AuditFault.TheVariants as audits
use Rattle.cb_trace.specs.Text.{HistoryFields}
use Rattle.cb_replay.specs.Replaying.{IsFirstWrong}
use Rattle.cb_trace.specs.Auditing.{seat_of, entries_at, AreOfEachMember}
use Rattle.cb_trace.specs.BeforeLaws.{OldHistoryIsLegal, OldHistoriesAreLegal, OldTracesAreAudited}

pub old_history_is_legal : OldHistoryIsLegal
old_history_is_legal h were = legal_before_is_legal (seat_of h.group h.me) h.entries were

pub old_histories_are_legal : OldHistoriesAreLegal
old_histories_are_legal group histories were = record {
  each = were.each;
  legal = λ i lt. legal_before_is_legal (seat_of group i) (entries_at histories i) (were.legal i lt);
}

-- the histories tell their group
one_group : (a b : Parameters) (histories : List HistoryFields) → AreOfEachMember a histories → AreOfEachMember b histories → a ≡ b
one_group a b [] x y = let many = x.many in let least = x.parameters.size in absurd (omega (arith, many, least))
one_group a b (h ∷ histories) x y = sym (x.each 0 h refl).0 ∙ (y.each 0 h refl).0

-- a legal history has no wrong entry
none_is_wrong : (seat : Identity) (entries : List EntryFields) (number : ℕ) → IsLegal seat entries → IsFirstWrong seat entries number → ⊥
none_is_wrong seat entries number legal first =
    let with_it : List EntryFields = first.before ++ first.wrong ∷ [] in
    let parts : entries ≡ with_it ++ first.after = first.parts ∙ sym (append_assoc first.before (first.wrong ∷ []) first.after) in
    let more : IsLegal seat with_it = prefix_is_legal seat with_it first.after (subst (IsLegal seat) parts legal) in
    first.not_given ((one_more_is_decided seat first.before first.wrong first.legal).0 more).1

pub old_traces_are_audited : OldTracesAreAudited
old_traces_are_audited group histories order audits.WrongMember were joint says = absurd (says group were.each)
old_traces_are_audited group histories order (audits.WrongAnswer member entry) were joint says =
    let same : says.group ≡ group = one_group says.group group histories says.each were.each in
    let within : member < group.size = subst (λ (g : Parameters). member < g.size) same says.within in
    let first = subst (λ (g : Parameters). IsFirstWrong (seat_of g member) (entries_at histories member) entry) same says.first in
    absurd (none_is_wrong (seat_of group member) (entries_at histories member) entry ((old_histories_are_legal group histories were).legal member within) first)
old_traces_are_audited group histories order (audits.Unsent member entry) were joint says = absurd (says.1 order joint)
old_traces_are_audited group histories order audits.NoMemory were joint says = refl
