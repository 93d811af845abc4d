pub mod SoundSlots
