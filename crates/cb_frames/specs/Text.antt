-- Which bytes are the text of which frame.
use Rattle.std.specs.Prelude.{◌≡◌, ◌≢◌, ℕ, ◌+◌, ◌-◌, ◌<◌, ◌≤◌, List, [], ◌∷◌, ◌++◌, length}
use Rattle.std.specs.List.{AllByRecursion, flat_map}
use Rattle.cb_varint.specs.Spelling.{Spells}
use Rattle.cb_varint.specs.Reading.{spelling}
use Rattle.cb_frames.specs.declared.frame.TheConstants.{LAST_MEMBER, LAST_NUMBER, LONGEST_PAYLOAD, MOST_MESSAGES, MOST_RANGES}
use Rattle.cb_frames.specs.declared.frame.Change.{Change}
use Rattle.cb_frames.specs.declared.frame.Range.{Range}
use Rattle.cb_frames.specs.Fields.{Load, One, Many, load_bytes, CastFields, StatusFields, RequestFields, HelpFields, FrameFields, CastFrame, StatusFrame, RequestFrame, HelpFrame}

-- the first byte of a cast frame that carries one payload, and of a burst
abbrev pub cast_kind : ℕ
cast_kind = 0x11

abbrev pub burst_kind : ℕ
burst_kind = 0x21

abbrev pub kind_of : Load → ℕ
kind_of (One payload) = cast_kind
kind_of (Many payloads) = burst_kind

-- of a status frame, of a request, and of a help frame
abbrev pub status_kind : ℕ
status_kind = 0x12

abbrev pub request_kind : ℕ
request_kind = 0x13

abbrev pub help_kind : ℕ
help_kind = 0x23

-- numbers, spelled one after another
abbrev pub SpellAll : List ℕ → List ℕ → Type 0
SpellAll [] text = text ≡ []
SpellAll (n ∷ ns) text = (first rest : List ℕ) × Spells first n × SpellAll ns rest × (text ≡ first ++ rest)

-- the spellings of numbers were appended, one after another
abbrev pub AppendsNumbers : List ℕ → List ℕ → List ℕ → Type 0
AppendsNumbers old new numbers = (text : List ℕ) × SpellAll numbers text × (new ≡ old ++ text)

-- The indices of the changes rise from `least` on: each is written as what lies between it and the one before.
abbrev pub pairs_from : ℕ → List Change → List ℕ
pairs_from least [] = []
pairs_from least (d ∷ changes) = (d.field - least) ∷ d.amount ∷ pairs_from (d.field + 1) changes

abbrev pub RisesFrom : ℕ → List Change → Type 0
RisesFrom least [] = Unit {0}
RisesFrom least (d ∷ changes) = (least ≤ d.field) × RisesFrom (d.field + 1) changes

-- The ranges rise from `least` on and do not touch: the first number is written as its distance from the least that may stand there,
-- the last as its distance from the first.
abbrev pub ranges_from : ℕ → List Range → List ℕ
ranges_from least [] = []
ranges_from least (r ∷ ranges) = (r.first - least) ∷ (r.last - r.first) ∷ ranges_from (r.last + 2) ranges

-- the number fields of a cast frame before what it carries, in order
abbrev pub cast_numbers : CastFields → List ℕ
cast_numbers c = c.group ∷ c.sender ∷ c.number ∷ length c.changes ∷ pairs_from 0 c.changes

-- those of a status frame, of a request, and of a help frame
abbrev pub status_numbers : StatusFields → List ℕ
status_numbers s = s.group ∷ s.sender ∷ length s.values ∷ pairs_from 0 s.values

abbrev pub request_numbers : RequestFields → List ℕ
request_numbers r = r.group ∷ r.requester ∷ r.asked ∷ length r.ranges ∷ ranges_from 1 r.ranges

abbrev pub help_numbers : HelpFields → List ℕ
help_numbers h = h.group ∷ h.requester ∷ h.helper ∷ h.sender ∷ length h.ranges ∷ ranges_from 1 h.ranges

-- a field of another member's, grown
pub record IsChange (sender : ℕ) (d : Change) : Type 0 where
  pub index : d.field ≤ LAST_MEMBER
  pub other : d.field ≢ sender
  pub grown : 1 ≤ d.amount

-- changes of others' fields, each with an index that is at least `least` and above those before it
pub record AreChanges (sender least : ℕ) (changes : List Change) : Type 0 where
  pub rising : RisesFrom least changes
  pub each : AllByRecursion (IsChange sender) changes

-- a burst from this number on has some messages and not too many, and the last one has a number too
pub record IsBurst (first : ℕ) (payloads : List (List ℕ)) : Type 0 where
  pub some : 1 ≤ length payloads
  pub few : length payloads ≤ MOST_MESSAGES
  pub last : first + length payloads ≤ LAST_NUMBER + 1

abbrev pub KeepsLoadRules : ℕ → Load → Type 0
KeepsLoadRules first (One payload) = Unit {0}
KeepsLoadRules first (Many payloads) = IsBurst first payloads

-- the rules of a cast frame but for the bytes of its load
pub record KeepsCastRules (c : CastFields) : Type 0 where
  pub sender : c.sender ≤ LAST_MEMBER
  pub number : 1 ≤ c.number
  pub changes : AreChanges c.sender 0 c.changes
  pub load : KeepsLoadRules c.number c.load

-- a field of a time that is not 0
pub record IsValue (d : Change) : Type 0 where
  pub index : d.field ≤ LAST_MEMBER
  pub nonzero : 1 ≤ d.amount

-- fields of a time, each with an index that is at least `least` and above those before it
pub record AreValues (least : ℕ) (values : List Change) : Type 0 where
  pub rising : RisesFrom least values
  pub each : AllByRecursion IsValue values

pub record KeepsStatusRules (s : StatusFields) : Type 0 where
  pub sender : s.sender ≤ LAST_MEMBER
  pub values : AreValues 0 s.values

-- ranges that begin at `least` or later, and each behind a number that none of them has
abbrev pub AreRanges : ℕ → List Range → Type 0
AreRanges least [] = Unit {0}
AreRanges least (r ∷ ranges) = (least ≤ r.first) × (r.first ≤ r.last) × (r.last ≤ LAST_NUMBER) × AreRanges (r.last + 2) ranges

pub record KeepsRequestRules (r : RequestFields) : Type 0 where
  pub requester : r.requester ≤ LAST_MEMBER
  pub asked : r.asked ≤ LAST_MEMBER
  pub some : 1 ≤ length r.ranges
  pub few : length r.ranges ≤ MOST_RANGES
  pub ranges : AreRanges 1 r.ranges

pub record KeepsHelpRules (h : HelpFields) : Type 0 where
  pub requester : h.requester ≤ LAST_MEMBER
  pub helper : h.helper ≤ LAST_MEMBER
  pub sender : h.sender ≤ LAST_MEMBER
  pub some : 1 ≤ length h.ranges
  pub few : length h.ranges ≤ MOST_RANGES
  pub ranges : AreRanges 1 h.ranges

-- the rules that a value has to keep to have a text
abbrev pub KeepsRules : FrameFields → Type 0
KeepsRules (CastFrame c) = KeepsCastRules c
KeepsRules (StatusFrame s) = KeepsStatusRules s
KeepsRules (RequestFrame r) = KeepsRequestRules r
KeepsRules (HelpFrame h) = KeepsHelpRules h

-- what a frame may carry
abbrev pub IsLoad : Load → Type 0
IsLoad load = length (load_bytes load) ≤ LONGEST_PAYLOAD

-- the bytes of the payloads of a frame
abbrev pub payload_bytes : FrameFields → List ℕ
payload_bytes (CastFrame c) = load_bytes c.load
payload_bytes (StatusFrame s) = []
payload_bytes (RequestFrame r) = []
payload_bytes (HelpFrame h) = []

-- the cast with this load in place of its own
abbrev pub with_load : CastFields → Load → CastFields
with_load c load = record c { load = load }

-- the payloads have more bytes than a frame may carry
abbrev pub HasLongPayload : FrameFields → Type 0
HasLongPayload f = LONGEST_PAYLOAD < length (payload_bytes f)

-- the payloads are short enough, and another rule is broken
abbrev pub BreaksRule : FrameFields → Type 0
BreaksRule f = (length (payload_bytes f) ≤ LONGEST_PAYLOAD) × ¬ KeepsRules f

-- payloads, each behind its length
abbrev pub ArePayloads : List (List ℕ) → List ℕ → Type 0
ArePayloads [] text = text ≡ []
ArePayloads (payload ∷ payloads) text = (size rest : List ℕ) × Spells size (length payload) × ArePayloads payloads rest × (text ≡ size ++ (payload ++ rest))

-- payloads were appended, each behind its length
abbrev pub AppendsPayloads : List ℕ → List ℕ → List (List ℕ) → Type 0
AppendsPayloads old new payloads = (text : List ℕ) × ArePayloads payloads text × (new ≡ old ++ text)

-- what a cast frame carries: the one payload, or the count of its payloads and these
abbrev pub IsLoadText : Load → List ℕ → Type 0
IsLoadText (One payload) text = ArePayloads (payload ∷ []) text
IsLoadText (Many payloads) text = (count rest : List ℕ) × Spells count (length payloads) × ArePayloads payloads rest × (text ≡ count ++ rest)

-- the bytes are the frame's: its kind, the spellings of its number fields in order, and what it carries
abbrev pub IsText : FrameFields → List ℕ → Type 0
IsText (CastFrame c) bytes = KeepsCastRules c × IsLoad c.load
    × ((numbers carried : List ℕ) × SpellAll (cast_numbers c) numbers × IsLoadText c.load carried × (bytes ≡ kind_of c.load ∷ numbers ++ carried))
IsText (StatusFrame s) bytes = KeepsStatusRules s × ((numbers : List ℕ) × SpellAll (status_numbers s) numbers × (bytes ≡ status_kind ∷ numbers))
IsText (RequestFrame r) bytes = KeepsRequestRules r × ((numbers : List ℕ) × SpellAll (request_numbers r) numbers × (bytes ≡ request_kind ∷ numbers))
IsText (HelpFrame h) bytes = KeepsHelpRules h × ((numbers : List ℕ) × SpellAll (help_numbers h) numbers × (bytes ≡ help_kind ∷ numbers))

-- the same bytes as a function, for the layers above: what has a text has this one
abbrev pub payload_text : List ℕ → List ℕ
payload_text payload = spelling (length payload) ++ payload

abbrev pub load_text : Load → List ℕ
load_text (One payload) = payload_text payload
load_text (Many payloads) = spelling (length payloads) ++ flat_map payload_text payloads

unfoldable pub text_of : FrameFields → List ℕ
text_of (CastFrame c) = kind_of c.load ∷ flat_map spelling (cast_numbers c) ++ load_text c.load
text_of (StatusFrame s) = status_kind ∷ flat_map spelling (status_numbers s)
text_of (RequestFrame r) = request_kind ∷ flat_map spelling (request_numbers r)
text_of (HelpFrame h) = help_kind ∷ flat_map spelling (help_numbers h)
