mod Sought
