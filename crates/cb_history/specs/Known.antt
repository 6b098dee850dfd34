-- What a member knows of the others: how far they cast, and how far they delivered the casts of each.
use Rattle.std.specs.Prelude.{ℕ, ◌+◌, not, ◌==◌, ◌++◌, List, [], ◌∷◌, map, filter, max, min, if◌then◌else◌}
use Rattle.std.specs.List.{range_with_len, flat_map}
use Rattle.cb_frames.specs.declared.frame.Change.{Change}
use Rattle.cb_frames.specs.declared.frame.Range.{Range}
use Rattle.cb_frames.specs.Fields.{CastFields, Carried, last_number}
use Rattle.cb_diffs.specs.Expansion.{expanded_field}
use Rattle.cb_history.specs.Group.{Identity}
use Rattle.cb_history.specs.Facts.{Fact, OwnCast, CastReceived, StatusReceived, OwnStatus, casts_in, is_there, numbers_between}
use Rattle.cb_history.specs.View.{count, expanded_in, view}

abbrev pub greatest_of : List ℕ → ℕ
greatest_of [] = 0
greatest_of (n ∷ ns) = max n (greatest_of ns)

-- the value of a field in a status, 0 where it says none
abbrev pub value_in : List Change → ℕ → ℕ
value_in [] k = 0
value_in (d ∷ values) k = if d.field == k then d.amount else value_in values k

-- ---- the casts of sender i

-- what one fact says of how far sender i has cast: the number of a received cast of it, or a received status
abbrev pub reported_of : ℕ → Fact → List ℕ
reported_of i (OwnCast c) = []
reported_of i (CastReceived c) = if c.sender == i then last_number c ∷ [] else []
reported_of i (StatusReceived s) = value_in s.values i ∷ []
reported_of i (OwnStatus s) = []

-- what the times say of it that can be known
abbrev pub counted_in_times : List CastFields → ℕ → List ℕ
counted_in_times casts i = map (λ m. expanded_field casts m.sender m.number i) (expanded_in casts)

-- the greatest number of sender i that the member has heard of
abbrev pub known : List Fact → ℕ → ℕ
known facts i = greatest_of (flat_map (reported_of i) facts ++ counted_in_times (casts_in facts) i)

-- how many casts of sender i are expanded
abbrev pub expanded_count : List CastFields → ℕ → ℕ
expanded_count casts i = greatest_of (map (λ m. m.number) (filter (λ m. m.sender == i) (expanded_in casts)))

-- the numbers of casts of i that the member lacks: above what is expanded, known, within the window, and not kept
abbrev pub missing : Identity → List Fact → ℕ → List ℕ
missing seat facts i =
    filter (λ n. not (is_there (casts_in facts) i n))
    (numbers_between (expanded_count (casts_in facts) i) (min (known facts i) (count (view seat.group.size facts) i + seat.group.window)))

-- rising numbers as rising ranges that neither touch nor overlap
abbrev pub before_ranges : ℕ → List Range → List Range
before_ranges n [] = record { first = n; last = n } ∷ []
before_ranges n (r ∷ ranges) =
    if r.first == n + 1 then record { first = n; last = r.last } ∷ ranges else record { first = n; last = n } ∷ r ∷ ranges

abbrev pub ranges_of : List ℕ → List Range
ranges_of [] = []
ranges_of (n ∷ ns) = before_ranges n (ranges_of ns)

-- ---- what another has delivered

-- what one fact says of how many casts of sender i another, k, has delivered: a status of k
abbrev pub reported_by : ℕ → ℕ → Fact → List ℕ
reported_by k i (OwnCast c) = []
reported_by k i (CastReceived c) = []
reported_by k i (StatusReceived s) = if s.sender == k then value_in s.values i ∷ [] else []
reported_by k i (OwnStatus s) = []

-- what the times of the delivered messages of k say of it
abbrev pub counted_by : List CastFields → List Carried → ℕ → ℕ → List ℕ
counted_by casts seen k i = map (λ m. expanded_field casts m.sender m.number i) (filter (λ m. m.sender == k) seen)

-- how many casts of i the member knows that another, k, has delivered
abbrev pub acknowledged_of : Identity → List Fact → ℕ → ℕ → ℕ
acknowledged_of seat facts k i =
    greatest_of (flat_map (reported_by k i) facts ++ counted_by (casts_in facts) (view seat.group.size facts) k i)

-- that any member k has delivered: of itself it knows what it has delivered
abbrev pub acknowledged_by : Identity → List Fact → ℕ → ℕ → ℕ
acknowledged_by seat facts k i = if k == seat.me then count (view seat.group.size facts) i else acknowledged_of seat facts k i

abbrev pub least_of : List ℕ → ℕ
least_of [] = 0
least_of (n ∷ []) = n
least_of (n ∷ m ∷ ns) = min n (least_of (m ∷ ns))

-- and that every member other than i has delivered
abbrev pub stable_of : Identity → List Fact → ℕ → ℕ
stable_of seat facts i = least_of (map (λ k. acknowledged_by seat facts k i) (filter (λ k. not (k == i)) (range_with_len 0 seat.group.size)))

-- ---- own casts

-- how many of its casts the member knows that k has delivered
abbrev pub acknowledged : Identity → List Fact → ℕ → ℕ
acknowledged seat facts k = acknowledged_of seat facts k seat.me

-- how many of its casts the member knows that every other member has delivered
abbrev pub stable : Identity → List Fact → ℕ
stable seat facts = least_of (map (acknowledged seat facts) (filter (λ k. not (k == seat.me)) (range_with_len 0 seat.group.size)))
