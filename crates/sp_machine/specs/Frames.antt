-- None of this belongs to what the program promises: it is for contracts between crates.
-- The frames of a process as the machine's definition sees them. The contracts of frames, layouts and forks cite it.
use Rattle.std.specs.Prelude.{List, map, reverse}
use Rattle.sp_code.specs.Memory.{Frame as PlainFrame, Home as PlainHome, OfBlock, OfIndex}
use Rattle.sp_machine.specs.declared.frames.Home.{Home}
use Rattle.sp_machine.specs.declared.frames.Home.TheVariants as home
use Rattle.sp_machine.specs.declared.frames.Frame.{Frame}

abbrev pub home_of : Home → PlainHome
home_of (home.Block b) = OfBlock b
home_of (home.Index x) = OfIndex x

abbrev pub frame_of : Frame → PlainFrame
frame_of f = record {
  owner = f.owner;
  number = f.number;
  home = home_of f.home;
  link = f.link;
  references = f.references;
}

-- the newest first
unfoldable pub plain_frames : List Frame → List PlainFrame
plain_frames fs = reverse (map frame_of fs)
