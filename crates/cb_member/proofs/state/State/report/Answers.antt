use Rattle.std.proofs.Common.{refl}
use Rattle.cb_member.proofs.Ticks.{fields_agree, reported_keeps}
use Rattle.cb_member.proofs.state.State.report.Goals as goal

pub copy_from-requires : goal.copy_from-requires
copy_from-requires c = fields_agree c.args.self.now c.requires.facts c.requires.keeps

pub returns : goal.returns
returns c = record {
  seat = refl;
  keeps = λ facts are keeps. reported_keeps c.relays_keep_what_is_handed_on.ensures.stay c.args.self.now facts c.copy_from.new.self are keeps c.copy_from.ensures.copied;
}
