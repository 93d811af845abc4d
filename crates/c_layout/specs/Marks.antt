-- A record whose every field holds a mark of its own: no two fields of a struct hold one number, and no two slots are alike.
use Rattle.std.specs.Prelude.{ℕ, List, [], ◌∷◌}
use Rattle.pack_profile.specs.declared.Profile.{Profile}
use Rattle.pack_read.specs.declared.Pack.{Pack}
use Rattle.drive_record.specs.declared.Body.{Body}
use Rattle.drive_record.specs.declared.State.{State}
use Rattle.lines.specs.declared.Lines.{Lines}
use Rattle.chain_record.specs.declared.Chain.{Chain}

abbrev pub marked_profile : Profile
marked_profile = record {
  slot = 18;
  vendor = 19;
  general = 4100;
  gap = 20;
  sync = 21;
  protected = 4105;
  shape = record { cylinders = record { 0 = 4097 }; heads = record { 0 = 4104 }; track = record { 0 = 4098 }; sector = record { 0 = 4099 } };
  times = record {
    settle = record { 0 = 16_777_217 };
    step = record { 0 = 16_777_218 };
    switch = record { 0 = 16_777_219 };
    recalibrate = record { 0 = 16_777_220 };
    start = record { 0 = 16_777_221 };
    diagnostic = record { 0 = 16_777_222 };
    offset = record { 0 = 16_777_223 };
  };
}

abbrev pub marked_pack : ℕ → Pack
marked_pack place = record { fitted = 16_777_229; place = record { 0 = place }; profile = marked_profile }

abbrev pub marked_body : ℕ → Body
marked_body busy = record {
  timers = record { busy = record { 0 = busy }; head = record { 0 = 16_777_224 } };
  arm = record { cylinder = record { 0 = 4101 }; offset = 24; lost = 25 };
  latched = record { 0 = 4102 };
  sector = record { 0 = 4103 };
  head = record { 0 = 26 };
  motor = 27;
  reading = 28;
  writing = 29;
  standing = 16_777_230;
}

abbrev pub marked_state : ℕ → State
marked_state busy = record {
  body = marked_body busy;
  transfer = record { waiting = record { 0 = 16_777_225 }; bits = 16_777_226; response = 16_777_227; count = 4108; way = 30; acknowledge = 32 };
}

abbrev pub marked_lines : Lines
marked_lines = record { select = 33; heads = record { 0 = 34 }; writegate = 4106; readgate = 4107; command = 37; request = 38 }

abbrev pub marked_packs : List Pack
marked_packs = marked_pack 33_554_433 ∷ marked_pack 33_554_434 ∷ marked_pack 33_554_435 ∷ marked_pack 33_554_436 ∷ marked_pack 33_554_437 ∷ marked_pack 33_554_438 ∷ marked_pack 33_554_439 ∷ []

abbrev pub marked_states : List State
marked_states = marked_state 50_331_649 ∷ marked_state 50_331_650 ∷ marked_state 50_331_651 ∷ marked_state 50_331_652 ∷ marked_state 50_331_653 ∷ marked_state 50_331_654 ∷ marked_state 50_331_655 ∷ []

unfoldable pub marked_chain : Chain
marked_chain = record { packs = marked_packs; states = marked_states; lines = marked_lines; length = record { 0 = 16_777_228 } }
