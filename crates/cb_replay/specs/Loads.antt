-- What a load carries, without where it lies in memory.
use Rattle.cb_frames.specs.Fields.{Load as Fields, One, Many}
use Rattle.cb_replay.specs.declared.load.Load.{Load}
use Rattle.cb_replay.specs.declared.load.Load.TheVariants as loads

abbrev pub load_fields : Load → Fields
load_fields (loads.One payload) = One payload
load_fields (loads.Many payloads) = Many payloads.items
