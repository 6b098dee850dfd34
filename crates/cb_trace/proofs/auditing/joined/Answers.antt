use Rattle.std.proofs.Common.{ℕ, ◌≤◌, map, sym, subst}
use Rattle.std.proofs.lemmas.List.{length-map}
use Rattle.cb_history.specs.Legal.{longest_history}
use Rattle.cb_schedules.specs.Schedule.{Setting}
use Rattle.cb_trace.specs.Text.{history_fields}
use Rattle.cb_trace.specs.JointRun.{AreLegalWithin}
use Rattle.cb_trace.specs.Auditing.{entries_at, setting_of}
use Rattle.cb_trace.specs.Search.{IsJoining, IsJoined}
use Rattle.cb_trace.proofs.Audited.{limit_is, legal_within}
use Rattle.cb_trace.proofs.auditing.joined.Goals as goal

abbrev Starts : (c : goal.After-joining-2-1) → Setting → Type 0
Starts c setting = IsJoining setting (map history_fields c.args.histories.now) c.in_ok-joining.joining

starts : (c : goal.After-joining-2-1) → Starts c (setting_of c.args.group (map history_fields c.args.histories.now))
starts c =
    subst (λ (n : ℕ). Starts c (record { group = c.args.group; limit = n })) c.requires.longest (c.in_ok-joining.ensures (map history_fields c.args.histories.now) (length-map c.args.histories.now history_fields))

pub start-requires : goal.start-requires
start-requires c =
    let histories = map history_fields c.args.histories.now in
    record { limit = subst (λ (n : ℕ). (1 ≤ n) × (n ≤ longest_history)) (sym c.requires.longest) (limit_is c.args.group histories c.requires.legal) }

pub join-requires-clause-legal : goal.join-requires-clause-legal
join-requires-clause-legal c =
    let histories = map history_fields c.args.histories.now in
    subst (λ (setting : Setting). AreLegalWithin setting (entries_at histories)) (sym (starts c).setting_is) (legal_within c.args.group histories c.requires.legal)

pub join-requires-clause-joining : goal.join-requires-clause-joining
join-requires-clause-joining c = subst (Starts c) (sym (starts c).setting_is) (starts c)

pub returns : goal.returns
returns c =
    let histories = map history_fields c.args.histories.now in
    let began : IsJoining (setting_of c.args.group histories) histories c.in_ok-joining.joining =
    subst (λ (n : ℕ). IsJoining (record { group = c.args.group; limit = n }) histories c.in_ok-joining.joining) c.requires.longest (c.in_ok-joining.ensures histories (length-map c.args.histories.now history_fields)) in
    record {
      group = c.args.group;
      legal = c.requires.legal;
      joined = subst (λ (setting : Setting). IsJoined setting histories c.join.new.joining) began.setting_is c.in_ok-join.ensures;
    }
