-- Whole runs.
use Rattle.std.proofs.Common.{◌≡◌, ℕ, ◌+◌, Bool, false, ◌<◌, ◌≤◌, List, [], ◌∷◌, ◌++◌, length, take, drop, Result, Ok, Err, refl, sym, ap, ap₂, subst, ◌∙◌, arith, append_assoc}
use Rattle.std.specs.Prelude.{Option, Some, None, IfSome, IfOk, IfErr, OnOk, OnErr}
use Rattle.std.specs.Io.KnownBytes.{Appends, Consumes, IsAtEnd, Keeps}
use Rattle.std.proofs.lemmas.List.{append-nil, length-append, length-take, take-append-le, take-take, take_all, take-append-drop}
use Rattle.cb_diffs.specs.Laws.{IsKept}
use Rattle.confer_text.proofs.Parts.{appends_none, appends_more, consumes_none, consumes_more, consumes_kept}
use Rattle.confer_text.specs.declared.streams.TheConstants.{LONGEST_INPUT}
use Rattle.confer_expand.specs.Lines.{ended, unended, last_line, lines_of, answers, any_refused, accepted_through, output_of, is_refused}
use Rattle.confer_expand.specs.Progress.{Group, Said, Says, SaysAfter, SaysFirst, IsFresh, NothingSaid}
use Rattle.confer_expand.specs.Runs.{AnswersFirst, Stops, StopsIn, PutsLines, FailsToPut}
use Rattle.confer_text.specs.declared.fault.LinesFault.{LinesFault}
use Rattle.confer_text.specs.declared.fault.LinesFault.TheVariants.{Read, Write, TooLong, NoMemory}
use Rattle.confer_expand.proofs.Cutting.{ended-append, unended-append}
use Rattle.confer_expand.proofs.Saying.{after_more, answers-append, says_nothing}

-- ---- the whole input

-- what the loop over the input knows: what was read and how much more may be, and what is written
pub record InputSoFar (group size : ℕ) (input left before now : Option (List ℕ)) (room : ℕ) (g : Group) (s : Said) (begun : List ℕ) : Type 0 where
  pub seen : List ℕ
  pub read : Consumes input left seen
  pub count : length seen + room ≡ LONGEST_INPUT
  pub number : g.number ≡ group
  pub begun_is : begun ≡ unended [] seen
  pub said : SaysAfter group size [] (ended [] seen) (record { text = []; refused = false }) (record { text = answers group size [] (ended [] seen); refused = s.refused }) g.kept
  pub silent : s.text ≡ []
  pub written : Appends before now (answers group size [] (ended [] seen))

pub input_starts : (group size : ℕ) (input before : Option (List ℕ)) (g : Group) (s : Said) → IsFresh group size g → NothingSaid s
    → InputSoFar group size input input before before LONGEST_INPUT g s []
unfolding ended unended
input_starts group size input before g s fresh silent = record {
  seen = [];
  read = consumes_none input;
  count = omega arith;
  number = fresh.number_is;
  begun_is = refl;
  said = record { text = refl; refusal = silent.refused; kept_are = fresh.kept };
  silent = silent.text;
  written = appends_none before;
}

-- the lines that these ones say behind what was said, in the words of the whole run
behind : (group size : ℕ) (input left before now : Option (List ℕ)) (room : ℕ) (g g' : Group) (s s' : Said) (begun : List ℕ) (lines : List (List ℕ))
    → (f : InputSoFar group size input left before now room g s begun) → Says lines g g' s s'
    → SaysAfter group size [] (ended [] f.seen ++ lines) (record { text = []; refused = false })
    (record { text = answers group size [] (ended [] f.seen) ++ s'.text; refused = s'.refused }) g'.kept
behind group size input left before now room g g' s s' begun lines f says =
    let sizes : length g.kept ≡ size = f.said.kept_are.senders in
    let through = accepted_through group size [] (ended [] f.seen) in
    let here : SaysAfter group size through lines s s' g'.kept =
    subst (λ (n : ℕ). SaysAfter n size through lines s s' g'.kept) f.number
    (subst (λ (n : ℕ). IsKept n through g.kept → SaysAfter g.number n through lines s s' g'.kept) sizes (says.after through) f.said.kept_are) in
    let written = answers group size [] (ended [] f.seen) in
    after_more group size [] (ended [] f.seen) lines (record { text = []; refused = false }) (record { text = written; refused = s.refused })
    (record { text = written ++ s'.text; refused = s'.refused }) g.kept g'.kept f.said
    (record {
      text = ap (λ (t : List ℕ). written ++ t) (here.text ∙ ap (λ (t : List ℕ). t ++ answers group size through lines) f.silent);
      refusal = here.refusal;
      kept_are = here.kept_are;
    })

-- a piece was read and its lines answered and written
pub input_more : (group size : ℕ) (input left left' before now now' : Option (List ℕ)) (room room' : ℕ) (g g' : Group) (s s' : Said) (begun begun' chunk : List ℕ)
    → InputSoFar group size input left before now room g s begun → Consumes left left' chunk → room' + length chunk ≡ room
    → Says (ended begun chunk) g g' s s' → begun' ≡ unended begun chunk → Appends now now' s'.text
    → InputSoFar group size input left' before now' room' g' (record s' { text = [] }) begun'
input_more group size input left left' before now now' room room' g g' s s' begun begun' chunk f read count says begun_is put =
    let lines : ended [] f.seen ++ ended begun chunk ≡ ended [] (f.seen ++ chunk) =
    ap (λ (t : List ℕ). ended [] f.seen ++ ended t chunk) f.begun_is ∙ sym (ended-append [] f.seen chunk) in
    let all : SaysAfter group size [] (ended [] (f.seen ++ chunk)) (record { text = []; refused = false })
    (record { text = answers group size [] (ended [] f.seen) ++ s'.text; refused = s'.refused }) g'.kept =
    subst (λ (ls : List (List ℕ)). SaysAfter group size [] ls (record { text = []; refused = false })
    (record { text = answers group size [] (ended [] f.seen) ++ s'.text; refused = s'.refused }) g'.kept) lines
    (behind group size input left before now room g g' s s' begun (ended begun chunk) f says) in
    record {
      seen = f.seen ++ chunk;
      read = consumes_more input left left' f.seen chunk f.read read;
      count = omega (arith, f.count, count, length-append f.seen chunk);
      number = says.number ∙ f.number;
      begun_is = begun_is ∙ ap (λ (t : List ℕ). unended t chunk) f.begun_is ∙ sym (unended-append [] f.seen chunk);
      said = record { text = refl; refusal = all.refusal; kept_are = all.kept_are };
      silent = refl;
      written = subst (Appends before now') all.text (appends_more before now now' (answers group size [] (ended [] f.seen)) s'.text f.written put);
    }

-- ---- where a run stops

-- first lines are answered, and not all of it may be written
first_of : (group size : ℕ) (input left before now : Option (List ℕ)) (room : ℕ) (g g' : Group) (s s' : Said) (begun bytes : List ℕ) (xs later : List (List ℕ))
    → (f : InputSoFar group size input left before now room g s begun) → SaysFirst xs g g' s s' → lines_of bytes ≡ ended [] f.seen ++ (xs ++ later)
    → AnswersFirst group size bytes (answers group size [] (ended [] f.seen) ++ s'.text)
first_of group size input left before now room g g' s s' begun bytes xs later f first lines = record {
  done = ended [] f.seen ++ first.done;
  later = first.later ++ later;
  parts = lines ∙ ap (λ (ls : List (List ℕ)). ended [] f.seen ++ (ls ++ later)) first.parts
      ∙ ap (λ (ls : List (List ℕ)). ended [] f.seen ++ ls) (append_assoc first.done first.later later)
      ∙ sym (append_assoc (ended [] f.seen) first.done (first.later ++ later));
  text = (behind group size input left before now room g g' s s' begun first.done f first.says).text;
}

-- a beginning of first answers is a beginning of all
starts_output : (group size : ℕ) (input written part rest : List ℕ) → AnswersFirst group size input written → written ≡ part ++ rest
    → (more : List ℕ) × (output_of group size input ≡ part ++ more)
unfolding output_of
starts_output group size input written part rest a cut =
    let through = accepted_through group size [] a.done in (
      rest ++ answers group size through a.later,
      ap (answers group size []) a.parts ∙ answers-append group size [] a.done a.later
          ∙ ap (λ (t : List ℕ). t ++ answers group size through a.later) (sym a.text ∙ cut) ∙ append_assoc part rest (answers group size through a.later),
    )

-- the run stops where some first ones of the lines `xs`, which come next, were answered
stops_in : (fault : LinesFault) (group size : ℕ) (input left left' before now now' : Option (List ℕ)) (room : ℕ) (g : Group) (s : Said) (begun bytes : List ℕ) (xs later : List (List ℕ))
    → (f : InputSoFar group size input left before now room g s begun) → lines_of bytes ≡ ended [] f.seen ++ (xs ++ later)
    → StopsIn fault xs g s now now' → Stops group size bytes fault left' before now'
stops_in Read group size input left left' before now now' room g s begun bytes xs later f lines stop = absurd stop.fails
stops_in TooLong group size input left left' before now now' room g s begun bytes xs later f lines stop = absurd stop.fails
stops_in Write group size input left left' before now now' room g s begun bytes xs later f lines stop =
    let written = answers group size [] (ended [] f.seen) in
    let first = first_of group size input left before now room g stop.new s stop.said begun bytes xs later f stop.first lines in (
      written ++ stop.fails.part,
      appends_more before now now' written stop.fails.part f.written stop.fails.appended,
      starts_output group size bytes (written ++ stop.said.text) (written ++ stop.fails.part) stop.fails.rest first
          (ap (λ (t : List ℕ). written ++ t) stop.fails.parts ∙ sym (append_assoc written stop.fails.part stop.fails.rest)),
    )
stops_in NoMemory group size input left left' before now now' room g s begun bytes xs later f lines stop =
    let written = answers group size [] (ended [] f.seen) in (
      written ++ stop.said.text,
      appends_more before now now' written stop.said.text f.written stop.fails,
      first_of group size input left before now room g stop.new s stop.said begun bytes xs later f stop.first lines,
    )

-- the lines behind what has begun
abbrev lines_behind : List ℕ → List ℕ → List (List ℕ)
lines_behind begun more = ended begun more ++ last_line (unended begun more)

-- the lines of an input of which a beginning was seen and more has come
lines_in_parts : (seen chunk more : List ℕ)
    → lines_of (seen ++ (chunk ++ more)) ≡ ended [] seen ++ (ended (unended [] seen) chunk ++ lines_behind (unended (unended [] seen) chunk) more)
lines_in_parts seen chunk more =
    let begun = unended [] seen in
    ap₂ (λ (ls : List (List ℕ)) (t : List ℕ). ls ++ last_line t)
    (ended-append [] seen (chunk ++ more) ∙ ap (λ (ls : List (List ℕ)). ended [] seen ++ ls) (ended-append begun chunk more))
    (unended-append [] seen (chunk ++ more) ∙ unended-append begun chunk more)
    ∙ append_assoc (ended [] seen) (ended begun chunk ++ ended (unended begun chunk) more) (last_line (unended (unended begun chunk) more))
    ∙ ap (λ (ls : List (List ℕ)). ended [] seen ++ ls) (append_assoc (ended begun chunk) (ended (unended begun chunk) more) (last_line (unended (unended begun chunk) more)))

-- while a piece was answered
pub stops_in_piece : (fault : LinesFault) (group size : ℕ) (input left left' before now now' : Option (List ℕ)) (room within : ℕ) (g : Group) (s : Said) (begun chunk : List ℕ)
    → InputSoFar group size input left before now room g s begun → Consumes left left' chunk
    → StopsIn fault (ended begun (take within chunk)) g s now now' → IfSome input (λ bytes. Stops group size bytes fault left' before now')
stops_in_piece fault group size None left left' before now now' room within g s begun chunk f read stop = tt
stops_in_piece fault group size (Some bytes) left left' before now now' room within g s begun chunk f read stop = go left' (consumes_more (Some bytes) left left' f.seen chunk f.read read)
  where
    go : (rest : Option (List ℕ)) → Consumes (Some bytes) rest (f.seen ++ chunk) → Stops group size bytes fault left' before now'
    go None read = absurd read
    go (Some more) read =
        let piece = take within chunk in
        let tail = drop within chunk ++ more in
        let parts : bytes ≡ f.seen ++ (piece ++ tail) = read ∙ append_assoc f.seen chunk more
        ∙ ap (λ (t : List ℕ). f.seen ++ (t ++ more)) (sym (take-append-drop within chunk)) ∙ ap (λ (t : List ℕ). f.seen ++ t) (append_assoc piece (drop within chunk) more) in
        let next = unended (unended [] f.seen) piece in
        stops_in fault group size (Some bytes) left left' before now now' room g s begun bytes (ended begun piece) (lines_behind next tail) f
        (ap lines_of parts ∙ lines_in_parts f.seen piece tail ∙ ap (λ (t : List ℕ). ended [] f.seen ++ (ended t piece ++ lines_behind next tail)) (sym f.begun_is)) stop

all_seen : (left : Option (List ℕ)) (bytes seen : List ℕ) → Consumes (Some bytes) left seen → IsAtEnd left → bytes ≡ seen
all_seen None bytes seen p q = absurd p
all_seen (Some ys) bytes seen p q = p ∙ ap (λ (t : List ℕ). seen ++ t) q ∙ append-nil seen

-- a read that gave nothing
nothing_read : (input left left' : Option (List ℕ)) (seen chunk : List ℕ) → Consumes input left seen → Consumes left left' chunk → length chunk ≡ 0 → Consumes input left' seen
nothing_read input left left' seen [] p q e = subst (Consumes input left') (append-nil seen) (consumes_more input left left' seen [] p q)
nothing_read input left left' seen (b ∷ chunk) p q e = absurd (omega (arith, e))

-- while the last line was
pub stops_in_last : (fault : LinesFault) (group size : ℕ) (input left left' before now now' : Option (List ℕ)) (room : ℕ) (g : Group) (s : Said) (begun chunk : List ℕ)
    → InputSoFar group size input left before now room g s begun → Consumes left left' chunk → length chunk ≡ 0 → IsAtEnd left'
    → StopsIn fault (last_line begun) g s now now' → IfSome input (λ bytes. Stops group size bytes fault left' before now')
stops_in_last fault group size None left left' before now now' room g s begun chunk f read none end stop = tt
stops_in_last fault group size (Some bytes) left left' before now now' room g s begun chunk f read none end stop =
    let all : bytes ≡ f.seen = all_seen left' bytes f.seen (nothing_read (Some bytes) left left' f.seen chunk f.read read none) end in
    stops_in fault group size (Some bytes) left left' before now now' room g s begun bytes (last_line begun) [] f
    (ap lines_of all ∙ ap (λ (t : List ℕ). ended [] f.seen ++ last_line t) (sym f.begun_is) ∙ ap (λ (ls : List (List ℕ)). ended [] f.seen ++ ls) (sym (append-nil (last_line begun)))) stop

-- at a read that failed
pub stops_reading : (group size : ℕ) (input left left' before now : Option (List ℕ)) (room : ℕ) (g : Group) (s : Said) (begun : List ℕ)
    → InputSoFar group size input left before now room g s begun → Keeps left left' → IfSome input (λ bytes. Stops group size bytes Read left' before now)
stops_reading group size None left left' before now room g s begun f kept = tt
stops_reading group size (Some bytes) left left' before now room g s begun f kept =
    (answers group size [] (ended [] f.seen), f.written, (f.seen, consumes_kept (Some bytes) left left' f.seen f.read kept, refl))

-- and before the first one, where memory ran out
pub stops_at_once : (group size : ℕ) (input left before : Option (List ℕ)) → IfSome input (λ bytes. Stops group size bytes NoMemory left before before)
stops_at_once group size None left before = tt
stops_at_once group size (Some bytes) left before = ([], appends_none before, record { done = []; later = lines_of bytes; parts = refl; text = refl })

-- ---- the end of the input

pub whole_input : (group size : ℕ) (input left left' before now now' : Option (List ℕ)) (room : ℕ) (g g' : Group) (s after : Said) (begun chunk : List ℕ)
    → InputSoFar group size input left before now room g s begun → Consumes left left' chunk → length chunk ≡ 0 → IsAtEnd left'
    → PutsLines (last_line begun) g g' s after now now'
    → IfSome input (λ bytes. Appends before now' (output_of group size bytes) × (after.refused ≡ is_refused group size bytes) × (length bytes ≤ LONGEST_INPUT))
unfolding output_of is_refused
whole_input group size None left left' before now now' room g g' s after begun chunk f read none end put = tt
whole_input group size (Some bytes) left left' before now now' room g g' s after begun chunk f read none end put =
    let all : bytes ≡ f.seen = all_seen left' bytes f.seen (nothing_read (Some bytes) left left' f.seen chunk f.read read none) end in
    let lines : lines_of bytes ≡ ended [] f.seen ++ last_line begun = ap lines_of all ∙ ap (λ (t : List ℕ). ended [] f.seen ++ last_line t) (sym f.begun_is) in
    let said = behind group size (Some bytes) left before now room g g' s put.said begun (last_line begun) f put.says in (
      subst (Appends before now') (said.text ∙ ap (answers group size []) (sym lines))
          (appends_more before now now' (answers group size [] (ended [] f.seen)) put.said.text f.written put.put),
      ap (λ (x : Said). x.refused) put.cleared ∙ said.refusal ∙ ap (any_refused group size []) (sym lines),
      omega (arith, ap length all, f.count),
    )

-- the input goes on behind the limit
pub too_long : (group size : ℕ) (input left left' before now now' : Option (List ℕ)) (room : ℕ) (g g' : Group) (s after : Said) (begun chunk : List ℕ)
    → InputSoFar group size input left before now room g s begun → Consumes left left' chunk → room < length chunk
    → PutsLines (ended begun (take room chunk)) g g' s after now now' → IfSome input (λ bytes. Stops group size bytes TooLong left' before now')
too_long group size None left left' before now now' room g g' s after begun chunk f read past put = tt
too_long group size (Some bytes) left left' before now now' room g g' s after begun chunk f read past put = go left' (consumes_more (Some bytes) left left' f.seen chunk f.read read)
  where
    go : (rest : Option (List ℕ)) → Consumes (Some bytes) rest (f.seen ++ chunk) → Stops group size bytes TooLong left' before now'
    go None read = absurd read
    go (Some more) read =
        let piece = take room chunk in
        let tail = drop room chunk ++ more in
        let parts : bytes ≡ (f.seen ++ piece) ++ tail = read ∙ append_assoc f.seen chunk more
        ∙ ap (λ (t : List ℕ). f.seen ++ (t ++ more)) (sym (take-append-drop room chunk)) ∙ ap (λ (t : List ℕ). f.seen ++ t) (append_assoc piece (drop room chunk) more)
        ∙ sym (append_assoc f.seen piece tail) in
        let piece_is : length piece ≡ room = simp length-take (omega arith) in
        let full : length (f.seen ++ piece) ≡ LONGEST_INPUT = omega (arith, length-append f.seen piece, piece_is, f.count) in
        let limit : take LONGEST_INPUT bytes ≡ f.seen ++ piece =
        ap (λ (t : List ℕ). take LONGEST_INPUT t) parts ∙ take-append-le LONGEST_INPUT (f.seen ++ piece) tail (omega arith) ∙ take_all LONGEST_INPUT (f.seen ++ piece) (omega arith) in
        let said = behind group size (Some bytes) left before now room g g' s put.said begun (ended begun piece) f put.says in
        let lines : ended [] f.seen ++ ended begun piece ≡ ended [] (take LONGEST_INPUT bytes) =
        ap (λ (t : List ℕ). ended [] f.seen ++ ended t piece) f.begun_is ∙ sym (ended-append [] f.seen piece) ∙ ap (ended []) (sym limit) in (
          answers group size [] (ended [] f.seen) ++ put.said.text,
          appends_more before now now' (answers group size [] (ended [] f.seen)) put.said.text f.written put.put,
          (omega (arith, ap length read, length-append (f.seen ++ chunk) more, length-append f.seen chunk, f.count, past), said.text ∙ ap (answers group size []) lines),
        )

-- a last line is answered whole, or memory ran out before its answer
pub stopped_in : {E : Type 0} (r : Result (Unit {0}) E) (fault : LinesFault) (lines : List (List ℕ)) (g g' : Group) (s s' : Said) (written now : Option (List ℕ))
    → FailsToPut fault written now s'.text → OnOk r (Says lines g g' s s') → OnErr r ((g' ≡ g) × (s' ≡ s)) → StopsIn fault lines g s written now
stopped_in (Ok done) fault lines g g' s s' written now fails ok err =
    record { new = g'; said = s'; first = record { done = lines; later = []; parts = sym (append-nil lines); says = ok }; fails = fails }
stopped_in (Err e) fault lines g g' s s' written now fails ok err = record {
  new = g;
  said = s;
  first = record { done = []; later = lines; parts = refl; says = says_nothing g s };
  fails = subst (λ (x : Said). FailsToPut fault written now x.text) err.1 fails;
}

-- ---- the same, of what the code has

pub piece_more : (group size : ℕ) (input left left' before now now' : Option (List ℕ)) (room room' : ℕ) (g g' : Group) (s after : Said) (begun begun' chunk piece : List ℕ)
    → InputSoFar group size input left before now room g s begun → Consumes left left' chunk → room' + length chunk ≡ room → piece ≡ chunk
    → PutsLines (ended begun piece) g g' s after now now' → begun' ≡ unended begun piece → InputSoFar group size input left' before now' room' g' after begun'
piece_more group size input left left' before now now' room room' g g' s after begun begun' chunk piece f read count whole put begun_is =
    subst (λ (x : Said). InputSoFar group size input left' before now' room' g' x begun') (sym put.cleared)
    (input_more group size input left left' before now now' room room' g g' s put.said begun begun' chunk f read count
    (subst (λ (t : List ℕ). Says (ended begun t) g g' s put.said) whole put.says) (begun_is ∙ ap (unended begun) whole) put.put)

pub piece_of : (within count : ℕ) (bytes same : List ℕ) → same ≡ bytes → within ≤ count → take within same ≡ take within (take count bytes)
piece_of within count bytes same e le = ap (take within) e ∙ sym (take-take within count bytes le)

-- what answering the last line says of the run
pub record EndsRun (r : Result Bool LinesFault) (group size : ℕ) (input left before now : Option (List ℕ)) : Type 0 where
  pub text : IfOk r (λ refused. IfSome input (λ bytes. Appends before now (output_of group size bytes)))
  pub refused : IfOk r (λ refused. IfSome input (λ bytes. refused ≡ is_refused group size bytes))
  pub limit : IfOk r (λ refused. IfSome input (λ bytes. length bytes ≤ LONGEST_INPUT))
  pub fault : IfErr r (λ fault. IfSome input (λ bytes. Stops group size bytes fault left before now))

IfSome-map : {X : Type 0} {P Q : X → Type 0} (o : Option X) → ((x : X) → P x → Q x) → IfSome o P → IfSome o Q
IfSome-map None f h = tt
IfSome-map (Some x) f h = f x h

pub ends_run : (r : Result Bool LinesFault) (group size : ℕ) (input left left' before now now' : Option (List ℕ)) (room : ℕ) (g g' : Group) (s after : Said) (begun chunk : List ℕ)
    → InputSoFar group size input left before now room g s begun → Consumes left left' chunk → length chunk ≡ 0 → IsAtEnd left'
    → OnOk r (PutsLines (last_line begun) g g' s after now now') → IfOk r (λ refused. refused ≡ after.refused)
    → IfErr r (λ fault. StopsIn fault (last_line begun) g s now now') → EndsRun r group size input left' before now'
ends_run (Ok refused) group size input left left' before now now' room g g' s after begun chunk f read none end ok is err =
    let all = whole_input group size input left left' before now now' room g g' s after begun chunk f read none end ok in
    record {
      text = IfSome-map {P = λ bytes. Appends before now' (output_of group size bytes) × (after.refused ≡ is_refused group size bytes) × (length bytes ≤ LONGEST_INPUT)} {Q = λ bytes. Appends before now' (output_of group size bytes)} input (λ bytes h. h.0) all;
      refused = IfSome-map {P = λ bytes. Appends before now' (output_of group size bytes) × (after.refused ≡ is_refused group size bytes) × (length bytes ≤ LONGEST_INPUT)} {Q = λ bytes. refused ≡ is_refused group size bytes} input (λ bytes h. is ∙ h.1) all;
      limit = IfSome-map {P = λ bytes. Appends before now' (output_of group size bytes) × (after.refused ≡ is_refused group size bytes) × (length bytes ≤ LONGEST_INPUT)} {Q = λ bytes. length bytes ≤ LONGEST_INPUT} input (λ bytes h. h.2) all;
      fault = tt;
    }
ends_run (Err fault) group size input left left' before now now' room g g' s after begun chunk f read none end ok is err =
    record { text = tt; refused = tt; limit = tt; fault = stops_in_last fault group size input left left' before now now' room g s begun chunk f read none end err }

pub written_back : (n : ℕ) (bytes old : List ℕ) → length bytes ≡ n → take n (bytes ++ old) ≡ bytes
written_back n bytes old e = take-append-le n bytes old (omega arith) ∙ take_all n bytes (omega arith)
