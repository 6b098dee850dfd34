-- Help among some members: whom a member asks for the casts that it lacks of another, where only some are to be asked.
use Rattle.std.specs.Prelude.{◌≡◌, ◌≢◌, ◌⊎◌, ℕ, Bool, true, not, ◌&&◌, ◌==◌, nat_le, nat_lt, List, [], ◌∷◌, Option, Some, None, Result, Ok, Err, if◌then◌else◌}
use Rattle.std.specs.List.{Contains, list_all, range_with_len}
use Rattle.cb_frames.specs.declared.frame.Range.{Range}
use Rattle.cb_history.specs.declared.answer.HelpFault.{HelpFault}
use Rattle.cb_history.specs.declared.answer.HelpFault.TheVariants as helps
use Rattle.cb_history.specs.declared.answer.Outgoing.{Outgoing}
use Rattle.cb_history.specs.Facts.{Fact}
use Rattle.cb_history.specs.Group.{Identity}
use Rattle.cb_history.specs.Helping.{first_where, help_to}
use Rattle.cb_history.specs.Known.{missing, ranges_of, acknowledged_of}
use Rattle.cb_history.specs.State.{MemberState, facts_in, answer_to_help}

-- the member to ask for message n of sender i: of those given the first one, other than both, that is known to have delivered it
abbrev pub helper_among : Identity → List Fact → ℕ → ℕ → List ℕ → Option ℕ
helper_among seat facts i n members = first_where (λ k. not (k == i) && not (k == seat.me) && nat_le n (acknowledged_of seat facts k i)) members

-- it is chosen for the first message that is missing, where one is
abbrev pub help_for_among : Identity → List Fact → ℕ → List Range → List ℕ → Option Outgoing
help_for_among seat facts i [] members = None
help_for_among seat facts i (r ∷ ranges) members = help_to seat i (r ∷ ranges) (helper_among seat facts i r.first members)

-- i is another member of the group, and those given are members of it
abbrev pub may_ask_among : Identity → ℕ → List ℕ → Bool
may_ask_among seat i members = nat_lt i seat.group.size && not (i == seat.me) && list_all (λ k. nat_lt k seat.group.size) members

-- what is sent for the missing casts of i to one of the members given
unfoldable pub help_answer_among : Identity → List Fact → ℕ → List ℕ → Result (Option Outgoing) HelpFault
help_answer_among seat facts i members =
    if may_ask_among seat i members then Ok (help_for_among seat facts i (ranges_of (missing seat facts i)) members) else Err helps.BadMember

-- help was not asked for; memory is short only where it may be asked for
abbrev pub RefusesAmong : Identity → List Fact → ℕ → List ℕ → HelpFault → Type 0
RefusesAmong seat facts i members fault =
    (help_answer_among seat facts i members ≡ Err fault) ⊎ ((fault ≡ helps.NoMemory) × (may_ask_among seat i members ≡ true))

-- ---- of a member

abbrev pub answer_to_help_among : MemberState → ℕ → List ℕ → Result (Option Outgoing) HelpFault
answer_to_help_among m i members = help_answer_among m.seat (facts_in m) i members

abbrev pub RefusesHelpAmong : MemberState → ℕ → List ℕ → HelpFault → Type 0
RefusesHelpAmong m i members fault = RefusesAmong m.seat (facts_in m) i members fault

-- ---- laws

-- a frame goes to one of these members, which is neither i nor the member itself
pub record GoesToOneOf (seat : Identity) (i : ℕ) (members : List ℕ) (out : Outgoing) : Type 0 where
  pub member : ℕ
  pub to : out.to ≡ Some member
  pub given : Contains members member
  pub third : member ≢ i
  pub other : member ≢ seat.me

abbrev pub AsksOneOfThese : Type 0
AsksOneOfThese = (m : MemberState) (i : ℕ) (members : List ℕ) (out : Outgoing) → answer_to_help_among m i members ≡ Ok (Some out) → GoesToOneOf m.seat i members out

-- to ask for help is to ask among all members, in rising order
abbrev pub HelpIsAmongAll : Type 0
HelpIsAmongAll = (m : MemberState) (i : ℕ) → answer_to_help m i ≡ answer_to_help_among m i (range_with_len 0 m.seat.group.size)
