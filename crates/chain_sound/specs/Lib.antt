pub mod SoundChain
