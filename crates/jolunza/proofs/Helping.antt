-- The code of help tells what was answered.
use Rattle.std.proofs.Common.{◌≡◌, ℕ, false, List, Result, Ok, Err, refl}
use Rattle.std.specs.Prelude.{◌↔◌, OnOk, OnErr, IfErr}
use Rattle.cb_history.specs.declared.answer.HelpFault.{HelpFault}
use Rattle.cb_history.specs.declared.answer.HelpFault.TheVariants.{BadMember, NoMemory}
use Rattle.cb_history.specs.State.{MemberState, RefusesHelp}
use Rattle.cb_member.specs.Helping.{may_ask_among, RefusesHelpAmong}
use Rattle.cb_handle.specs.declared.held.Held.{Held}
use Rattle.cb_handle.specs.Calling.{HasHelpToSend, HasHelpAmongToSend, OnEach, seat_held}
use Rattle.jolunza.specs.Calls.{Asks, Helps, HelpsAmong, IsNoOther}
use Rattle.jolunza.specs.Codes.{answer_code, help_code}

module _ (Asked : Held → Held → Type 0) (Refuses : MemberState → HelpFault → Type 0) (IsBad : Held → Type 0) where
  asks_so : (before after : Held) (answer : Result (Unit {0}) HelpFault) (code : ℕ) → OnOk answer (Asked before after)
      → IfErr answer (λ fault. OnEach before (λ m. Refuses m fault)) → (answer ≡ Err BadMember) ↔ IsBad before
      → OnErr answer (after ≡ before) → code ≡ answer_code help_code answer → Asks Asked Refuses IsBad before after code
  asks_so before after (Ok done) code asks refuses bad same is = rw is (record {
    asks = record { done = λ _. asks; refused = λ no. absurd (no refl) };
    bad_member = (λ code_is. absurd cc, λ is_bad. let never : Ok tt ≡ Err BadMember = bad.1 is_bad in absurd cc);
  })
  asks_so before after (Err BadMember) code asks refuses bad same is = rw is (record {
    asks = record { done = λ code_is. absurd cc; refused = λ _. (BadMember, (refl, (refuses, same))) };
    bad_member = (λ _. bad.0 refl, λ _. refl);
  })
  asks_so before after (Err NoMemory) code asks refuses bad same is = rw is (record {
    asks = record { done = λ code_is. absurd cc; refused = λ _. (NoMemory, (refl, (refuses, same))) };
    bad_member = (λ code_is. absurd cc, λ is_bad. let never : Err NoMemory ≡ Err BadMember = bad.1 is_bad in absurd cc);
  })

pub helps_so : (member : ℕ) (before after : Held) (answer : Result (Unit {0}) HelpFault) (code : ℕ) → OnOk answer (HasHelpToSend before after member)
    → IfErr answer (λ fault. OnEach before (λ m. RefusesHelp m member fault)) → (answer ≡ Err BadMember) ↔ IsNoOther before member
    → OnErr answer (after ≡ before) → code ≡ answer_code help_code answer → Helps member before after code
helps_so member before after answer code asks refuses bad same is =
    asks_so (λ b a. HasHelpToSend b a member) (λ m fault. RefusesHelp m member fault) (λ held. IsNoOther held member) before after answer code asks refuses bad same is

pub helps_among_so : (member : ℕ) (members : List ℕ) (before after : Held) (answer : Result (Unit {0}) HelpFault) (code : ℕ)
    → OnOk answer (HasHelpAmongToSend before after member members)
    → IfErr answer (λ fault. OnEach before (λ m. RefusesHelpAmong m member members fault)) → (answer ≡ Err BadMember) ↔ (may_ask_among (seat_held before) member members ≡ false)
    → OnErr answer (after ≡ before) → code ≡ answer_code help_code answer → HelpsAmong member members before after code
helps_among_so member members before after answer code asks refuses bad same is =
    asks_so (λ b a. HasHelpAmongToSend b a member members) (λ m fault. RefusesHelpAmong m member members fault)
    (λ held. may_ask_among (seat_held held) member members ≡ false) before after answer code asks refuses bad same is
