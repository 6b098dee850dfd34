-- A script is read line by line.
use Rattle.std.proofs.Common.{◌≡◌, ◌⊎◌, ℕ, zero, suc, ◌+◌, ◌<◌, List, [], ◌∷◌, ◌++◌, length, map, take, get_or, slice_get, Option, Some, None, Result, IfOk, IfSome, refl, sym, ap, subst, ◌∙◌, arith}
use Rattle.std.specs.Prelude.{◌==◌, codes, decimal}
use Rattle.std.specs.List.{slice_split}
use Rattle.std.specs.Io.KnownBytes.{Appends}
use Rattle.std.proofs.lemmas.List.{map-append}
use Rattle.std.proofs.lemmas.Option.{slice_get_read}
use denote.Ref.{Bor}
use Rattle.cb_frames.specs.Fields.{One, Many}
use Rattle.cb_schedules.specs.Schedule.{Setting, CastStep}
use Rattle.confer_play.specs.declared.script.ScriptStep.{ScriptStep}
use Rattle.confer_play.specs.declared.script.LineFault.{LineFault}
use Rattle.confer_play.specs.Play.{IsPayloadWord}
use Rattle.confer_play.specs.Playing.{ScriptOrder, Takes, order_of, IsRunText}
use Rattle.confer_play.specs.ScriptText.{spaced, labelled, ArePayloadWords, IsFirstLine, Orders, EachOrders, AreScript, IsScript, RunsScript, WritesRun}

-- ---- one more of some

take_one : {X : Type 0} (xs : List X) (i : ℕ) (x : X) → slice_get xs i ≡ Some x → take (suc i) xs ≡ take i xs ++ x ∷ []
take_one [] i x at = absurd (cc at)
take_one (y ∷ ys) zero x at = let same : y ≡ x = cc in ap (λ z. z ∷ []) same
take_one (y ∷ ys) (suc i) x at = ap (λ zs. y ∷ zs) (take_one ys i x at)

taken_one_more : (texts : List (Bor (List ℕ))) (i : ℕ) (text : Bor (List ℕ)) → i < length texts → text ≡ get_or texts i text
    → map (λ t. t.now) (take (i + 1) texts) ≡ map (λ t. t.now) (take i texts) ++ (text.now ∷ [])
taken_one_more texts i text within read =
    let up : suc i ≡ i + 1 = omega arith in
    let at : slice_get texts i ≡ Some text = slice_get_read texts (length texts) i text refl within read in
    ap (λ (n : ℕ). map (λ (t : Bor (List ℕ)). t.now) (take n texts)) (sym up) ∙ ap (map (λ (t : Bor (List ℕ)). t.now)) (take_one texts i text at)
    ∙ map-append (λ (t : Bor (List ℕ)). t.now) (take i texts) (text ∷ [])

-- ---- one line

pub behind : (text verb rest word : List ℕ) (r : Result ScriptStep LineFault) → text ≡ spaced verb rest → verb ≡ word → IfOk r (λ step. Orders (spaced word rest) (order_of step))
    → IfOk r (λ step. Orders text (order_of step))
behind text verb rest word r is same says =
    subst (λ (t : List ℕ). IfOk r (λ step. Orders t (order_of step))) (sym (is ∙ ap (λ (v : List ℕ). spaced v rest) same)) says

pub says_cast : (words word : List ℕ) (i : ℕ) (payload : List ℕ) → words ≡ spaced (decimal i) word → IsPayloadWord word payload → Orders (spaced (codes "cast") words) (Takes (CastStep i (One payload)))
says_cast words word i payload is spelled = (word, ap (spaced (codes "cast")) is, spelled)

pub says_burst : (words text : List ℕ) (i : ℕ) (payloads : List (List ℕ)) → words ≡ spaced (decimal i) text → ArePayloadWords (slice_split (λ b. b == 32) text) payloads
    → Orders (spaced (codes "burst") words) (Takes (CastStep i (Many payloads)))
says_burst words text i payloads is spelled = (text, ap (spaced (codes "burst")) is, spelled)

payload_more : (words payloads : List (List ℕ)) (word payload : List ℕ) → ArePayloadWords words payloads → IsPayloadWord word payload → ArePayloadWords (words ++ word ∷ []) (payloads ++ payload ∷ [])
payload_more [] [] word payload each spelled = (spelled, tt)
payload_more [] (p ∷ ps) word payload each spelled = absurd each
payload_more (w ∷ ws) [] word payload each spelled = absurd each
payload_more (w ∷ ws) (p ∷ ps) word payload each spelled = (each.0, payload_more ws ps word payload each.1 spelled)

pub adds_payload : (word payload : List ℕ) (before after : List (List ℕ)) → IsPayloadWord word payload → after ≡ before ++ payload ∷ []
    → (words : List (List ℕ)) → ArePayloadWords words before → ArePayloadWords (words ++ word ∷ []) after
adds_payload word payload before after spelled pushed words each = subst (ArePayloadWords (words ++ word ∷ [])) (sym pushed) (payload_more words before word payload each spelled)

pub one_word_more : (words : List (Bor (List ℕ))) (i : ℕ) (word : Bor (List ℕ)) (before after : List (List ℕ)) → i < length words → word ≡ get_or words i word
    → ArePayloadWords (map (λ w. w.now) (take i words)) before → ((ws : List (List ℕ)) → ArePayloadWords ws before → ArePayloadWords (ws ++ (word.now ∷ [])) after)
    → ArePayloadWords (map (λ w. w.now) (take (i + 1) words)) after
one_word_more words i word before after within read each adds =
    subst (λ (ws : List (List ℕ)). ArePayloadWords ws after) (sym (taken_one_more words i word within read)) (adds (map (λ (w : Bor (List ℕ)). w.now) (take i words)) each)

pub first_line : (text behind_group behind_size behind_window word digits : List ℕ) (g n w h : ℕ) (setting : Setting) → text ≡ labelled (codes "group") g behind_group → behind_group ≡ labelled (codes "size") n behind_size
    → behind_size ≡ labelled (codes "window") w behind_window → behind_window ≡ spaced word digits → word ≡ codes "history" → digits ≡ decimal h
    → setting ≡ record { group = record { number = g; size = n; window = w }; limit = h } → IsFirstLine text setting
first_line text behind_group behind_size behind_window word digits g n w h setting group size window both history limit is =
    subst (IsFirstLine text) (sym is)
    (group ∙ ap (labelled (codes "group") g) (size ∙ ap (labelled (codes "size") n) (window ∙ ap (labelled (codes "window") w)
    (both ∙ ap (λ (v : List ℕ). spaced v digits) history ∙ ap (spaced (codes "history")) limit))))

-- ---- all lines

each_more : (lines : List (List ℕ)) (orders : List ScriptOrder) (line : List ℕ) (order : ScriptOrder) → EachOrders lines orders → Orders line order → EachOrders (lines ++ line ∷ []) (orders ++ order ∷ [])
each_more [] [] line order each says = (says, tt)
each_more [] (o ∷ os) line order each says = absurd each
each_more (l ∷ ls) [] line order each says = absurd each
each_more (l ∷ ls) (o ∷ os) line order each says = (each.0, each_more ls os line order each.1 says)

pub adds_line : (line : List ℕ) (step : ScriptStep) (before after : List ScriptStep) → Orders line (order_of step) → after ≡ before ++ step ∷ []
    → (lines : List (List ℕ)) → EachOrders lines (map order_of before) → EachOrders (lines ++ line ∷ []) (map order_of after)
adds_line line step before after says pushed lines each =
    subst (EachOrders (lines ++ line ∷ [])) (sym (ap (map order_of) pushed ∙ map-append order_of before (step ∷ [])))
    (each_more lines (map order_of before) line (order_of step) each says)

pub one_line_more : (lines : List (Bor (List ℕ))) (i : ℕ) (line : Bor (List ℕ)) (before after : List ScriptOrder) → i < length lines → line ≡ get_or lines i line
    → EachOrders (map (λ l. l.now) (take i lines)) before → ((ls : List (List ℕ)) → EachOrders ls before → EachOrders (ls ++ (line.now ∷ [])) after)
    → EachOrders (map (λ l. l.now) (take (i + 1) lines)) after
one_line_more lines i line before after within read each adds =
    subst (λ (ls : List (List ℕ)). EachOrders ls after) (sym (taken_one_more lines i line within read)) (adds (map (λ (l : Bor (List ℕ)). l.now) (take i lines)) each)

pub are_script : (all rest : List (Bor (List ℕ))) (first : Bor (List ℕ)) (setting : Setting) (orders : List ScriptOrder) → all ≡ first ∷ rest → IsFirstLine first.now setting
    → EachOrders (map (λ line. line.now) rest) orders → AreScript (map (λ line. line.now) all) setting orders
are_script all rest first setting orders is says each = subst (λ (ls : List (Bor (List ℕ))). AreScript (map (λ line. line.now) ls) setting orders) (sym is) (says, each)

pub is_script : (bytes text : List ℕ) (lines : List (List ℕ)) (setting : Setting) (orders : List ScriptOrder) → (bytes ≡ text) ⊎ (bytes ≡ text ++ codes "\n") → lines ≡ slice_split (λ b. b == 10) text
    → AreScript lines setting orders → IsScript bytes setting orders
is_script bytes text lines setting orders ended are script = record {
  text = text;
  ended = ended;
  lines = subst (λ (ls : List (List ℕ)). AreScript ls setting orders) are script;
}

-- ---- the run

pub runs_script : (bytes text : List ℕ) (setting : Setting) (orders : List ScriptOrder) → IsScript bytes setting orders → IsRunText setting orders text → RunsScript bytes text
runs_script bytes text setting orders script run = record { setting = setting; orders = orders; script = script; run = run }

of_input : (input : Option (List ℕ)) (bytes text : List ℕ) → IfSome input (λ b. bytes ≡ b) → RunsScript bytes text → IfSome input (λ b. RunsScript b text)
of_input None bytes text same runs = tt
of_input (Some b) bytes text same runs = subst (λ (bs : List ℕ). RunsScript bs text) same runs

pub writes_run : (input before now : Option (List ℕ)) (bytes text : List ℕ) → IfSome input (λ b. bytes ≡ b) → RunsScript bytes text → Appends before now text → WritesRun input before now
writes_run input before now bytes text same runs written = record { text = text; runs = of_input input bytes text same runs; written = written }
