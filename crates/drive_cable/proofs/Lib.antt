pub mod OnCable
