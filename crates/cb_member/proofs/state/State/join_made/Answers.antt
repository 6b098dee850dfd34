use Rattle.std.proofs.Common.{List, ◌++◌, map, ap, arith, ◌∙◌}
use Rattle.cb_delay.specs.declared.message.Event.{Event}
use Rattle.cb_delay.specs.declared.message.Event.TheVariants.{Cast}
use Rattle.cb_member.specs.Casting.{messages_made}
use Rattle.cb_member.proofs.Casting.{last_of}
use Rattle.cb_member.proofs.CoreCalls.{can_be_kept, few_made, joins_so, kept_is_core, KeepsSo}
use Rattle.cb_member.proofs.state.State.join_made.Goals as goal

pub overflow_cast-count : goal.overflow_cast-count
overflow_cast-count c =
    let few = few_made c.requires.load c.args.self.now c.args.casting c.count-count.result c.requires.can c.count-count.ensures in
    omega (arith, few)

pub keep_cast-requires : goal.keep_cast-requires
keep_cast-requires c =
    can_be_kept c.requires.load c.args.self.now c.args.casting c.last_time.result.now c.count-count.result c.requires.can
    (last_of c.args.casting.first _ _ c.last_time.result.now c.deref.ensures.value c.last_time.ensures) c.count-count.ensures

pub returns : goal.returns
returns c load can =
    let so : KeepsSo load c.args.self.now c.keep_cast.new.self c.args.casting c.in_ok-entry.entry c.last_time.result.now c.count-count.result = record {
      can = can;
      copied = c.in_ok-entry.ensures;
      at = last_of c.args.casting.first _ _ c.last_time.result.now c.deref.ensures.value c.last_time.ensures;
      many = c.count-count.ensures;
      keeps = c.keep_cast.ensures;
    } in
    let joined = c.push_casts.ensures ∙ ap (λ (es : List Event). es ++ map (λ m. Cast m) (messages_made c.args.casting)) c.in_ok-make_room.ensures.items in
    record {
      core = kept_is_core load c.args.self.now _ c.args.casting c.in_ok-entry.entry c.last_time.result.now c.count-count.result so;
      casts = joins_so load c.args.self.now _ c.args.casting c.in_ok-entry.entry c.last_time.result.now c.count-count.result so c.args.wanted c.args.events.now.items _ c.in_ok-time.time c.in_ok-noted.noted joined c.in_ok-time.ensures c.in_ok-noted.ensures;
      same = tt;
      same_events = tt;
    }
