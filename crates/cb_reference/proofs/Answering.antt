-- The frames that are sent again, a cast at a time.
use Rattle.std.proofs.Common.{◌≡◌, ℕ, ◌≤◌, List, [], ◌++◌, length, take, map, Some, sym, ap, ◌∙◌}
use Rattle.std.specs.List.{filter}
use Rattle.std.proofs.lemmas.List.{append-nil, take-map, take_at, take_all}
use Rattle.cb_frames.specs.declared.frame.Range.{Range}
use Rattle.cb_frames.specs.declared.frame.TheConstants.{MOST_FRAMES}
use Rattle.cb_frames.specs.Fields.{CastFields, CastFrame}
use Rattle.cb_frames.specs.Text.{text_of}
use Rattle.cb_history.specs.declared.answer.Outgoing.{Outgoing}
use Rattle.cb_history.specs.Answers.{is_asked_for}
use Rattle.cb_reference.specs.Requests.{first_asked}

-- all frames that are asked for, however many
abbrev pub all_asked : ℕ → List Range → List CastFields → List Outgoing
all_asked requester ranges casts = map (λ (c : CastFields). record { to = Some requester; bytes = text_of (CastFrame c) }) (filter (is_asked_for ranges) casts)

-- the first of them are the front of all
pub first_of_all : (requester : ℕ) (ranges : List Range) (casts : List CastFields) → take MOST_FRAMES (all_asked requester ranges casts) ≡ first_asked requester ranges casts
first_of_all requester ranges casts = take-map (λ (c : CastFields). record { to = Some requester; bytes = text_of (CastFrame c) }) MOST_FRAMES (filter (is_asked_for ranges) casts)

-- as many as are sent at once
pub sent_full : (out others whole : List Outgoing) → length out ≡ MOST_FRAMES → take MOST_FRAMES (out ++ others) ≡ whole → out ≡ whole
sent_full out others whole full h = sym (take_at out others MOST_FRAMES full) ∙ h

-- no cast more
pub sent_all : (out whole : List Outgoing) → length out ≤ MOST_FRAMES → take MOST_FRAMES (out ++ []) ≡ whole → out ≡ whole
sent_all out whole few h = sym (take_all MOST_FRAMES out few) ∙ ap (λ (os : List Outgoing). take MOST_FRAMES os) (sym (append-nil out)) ∙ h
