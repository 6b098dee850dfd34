-- A group in which nothing has happened.
use Rattle.std.proofs.Common.{◌≡◌, ℕ, zero, suc, ◌≤◌, ◌⊎◌, inl, inr, List, [], ◌∷◌, ◌++◌, length, map, Some, refl, sym, ap, subst, ◌∙◌}
use Rattle.std.specs.Prelude.{slice_get}
use Rattle.cb_history.specs.State.{MemberState}
use Rattle.cb_history.specs.Legal.{longest_history}
use Rattle.cb_schedules.specs.Schedule.{Setting, GroupState, nothing_yet, run, run_from}
use Rattle.cb_world.specs.declared.step.Step.{Step}
use Rattle.cb_world.specs.declared.outcome.Sent.{Sent}
use Rattle.cb_world.specs.declared.outcome.Outcome.{Outcome}
use Rattle.cb_world.specs.Steps.{step_fields}
use Rattle.cb_world.specs.Outcomes.{sent_fields, AreOutcomes, NoOutcomes}
use Rattle.cb_world.specs.Taking.{member_at}
use Rattle.cb_world.specs.World.{new_member, AreNewMembers, IsWorld}

-- an element of a list with one more is one of the list, or that one
got_with_more : (xs : List MemberState) (x m : MemberState) (i : ℕ) → slice_get (xs ++ x ∷ []) i ≡ Some m → (slice_get xs i ≡ Some m) ⊎ ((i ≡ length xs) × (x ≡ m))
got_with_more [] x m zero at = inr (refl, cc)
got_with_more [] x m (suc i) at = absurd cc
got_with_more (y ∷ xs) x m zero at = inl at
got_with_more (y ∷ xs) x m (suc i) at = elim (got_with_more xs x m i at) [
  | inl before ↦ inl before
  | inr is ↦ inr (ap suc is.0, is.1)
]

pub one_more_new : (setting : Setting) (members after : List MemberState) (x : MemberState) (n : ℕ) → after ≡ members ++ x ∷ [] → length members ≡ n → x ≡ new_member setting n
    → ((i : ℕ) (m : MemberState) → slice_get members i ≡ Some m → m ≡ new_member setting i) → (i : ℕ) (m : MemberState) → slice_get after i ≡ Some m → m ≡ new_member setting i
one_more_new setting members after x n pushed many is new i m at = elim (got_with_more members x m i (subst (λ (ms : List MemberState). slice_get ms i ≡ Some m) pushed at)) [
  | inl before ↦ new i m before
  | inr last ↦ sym last.1 ∙ is ∙ ap (new_member setting) (sym (last.0 ∙ many))
]

none_run : (setting : Setting) → run setting [] ≡ nothing_yet
unfolding run_from
none_run setting = refl

pub starts : (setting : Setting) (members : List MemberState) (sent : List Sent) (outcomes : List Outcome) (steps : List Step) → 1 ≤ setting.limit → setting.limit ≤ longest_history → AreNewMembers setting members
    → sent ≡ [] → outcomes ≡ [] → steps ≡ [] → IsWorld (record { setting = setting; steps = map step_fields steps }) members sent outcomes
starts setting members sent outcomes steps low high new none_sent none_reported none_taken =
    subst (λ (ss : List Step). IsWorld (record { setting = setting; steps = map step_fields ss }) members sent outcomes) (sym none_taken) (record {
      setting_is = record { is_setting = record { group = new.group; one_or_more = low }; at_most = high };
      stands = record {
        many = new.many;
        members_are = λ i m at. new.new i m at ∙ ap (λ (s : GroupState). member_at setting s i) (sym (none_run setting));
        sent_are = ap (map sent_fields) none_sent ∙ ap (λ (s : GroupState). s.sent) (sym (none_run setting));
      };
      outcomes_are = subst (AreOutcomes setting []) (sym none_reported) NoOutcomes;
    })
